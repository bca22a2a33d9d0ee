pub mod Limits
pub mod Runs
pub mod Again
pub mod Draws
pub mod Order
pub mod Untouched
