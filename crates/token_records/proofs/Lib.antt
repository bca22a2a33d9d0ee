pub mod Fronts
pub mod Recorded
pub mod Listed
pub mod Values
