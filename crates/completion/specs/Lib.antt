pub mod Graph
pub mod Growth
pub mod Onward
pub mod Completion
pub mod Steps
pub mod View
