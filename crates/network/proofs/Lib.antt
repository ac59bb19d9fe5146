pub mod Rows
pub mod Entries
pub mod Laws
pub mod Changes
pub mod Chains
pub mod Places
pub mod Bits
pub mod Words
pub mod Marked
pub mod Shares
pub mod Turns
mod Starts
