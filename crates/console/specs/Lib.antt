-- Lines of commands, and replies to them.
pub mod Commands
pub mod Cuts
pub mod Replies
pub mod Heads
