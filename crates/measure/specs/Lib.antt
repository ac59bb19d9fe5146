pub mod Ranks
pub mod Metres
pub mod TurnsFirst
pub mod Narrowest
pub mod Cost
pub mod Texts
pub mod Plain
