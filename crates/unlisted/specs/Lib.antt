pub mod Leaving
pub mod Listed
pub mod Best
pub mod Along
