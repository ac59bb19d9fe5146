pub mod Pieces
pub mod Puts
pub mod Values
pub mod FirstLine
pub mod Cut
