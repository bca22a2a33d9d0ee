pub mod Listed
pub mod Bounds
pub mod Named
pub mod Answered
