pub mod Members
pub mod Conditions
pub mod Exactness
pub mod Lengths
pub mod Testing
pub mod Decides
pub mod Listings
