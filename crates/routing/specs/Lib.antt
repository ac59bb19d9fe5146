pub mod Route
pub mod Enumeration
pub mod Unstopped
pub mod Lent
pub mod Places
pub mod Book
