pub mod Sizes
pub mod Settings
pub mod Rules
pub mod Searched
pub mod Reads
pub mod Verdicts
