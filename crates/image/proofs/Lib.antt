pub mod Octets
pub mod Readings
pub mod ReadBack
pub mod Written
pub mod WriteBack
pub mod Writings
pub mod Answering
