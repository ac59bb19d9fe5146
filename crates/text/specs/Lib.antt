-- Lines and words of a text, a text cut at a byte, and the numbers that words write.
pub mod Lines
pub mod Words
pub mod Numbers
pub mod Parts
pub mod Put
pub mod Cuts
