pub mod Containers
pub mod Words
pub mod Codes
