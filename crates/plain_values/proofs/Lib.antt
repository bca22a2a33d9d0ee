pub mod Integers
pub mod Spelled
pub mod Canonical
