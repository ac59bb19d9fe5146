pub mod Tournaments
pub mod Frontiers
pub mod Labelled
