pub mod Blanks
pub mod Figures
pub mod Sayings
pub mod Fronts
