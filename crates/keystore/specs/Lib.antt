pub mod Lists
pub mod Rings
pub mod Answers
pub mod Kept
pub mod Places
pub mod Moves
