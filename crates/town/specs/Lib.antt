-- The text of a town: what its lines say, the draft that they lay, and the causes of refusals in words.
pub mod Line
pub mod Town
pub mod Causes
pub mod Faults
