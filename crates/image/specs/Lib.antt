pub mod Image
pub mod Reads
pub mod Writes
pub mod Steps
pub mod Faults
