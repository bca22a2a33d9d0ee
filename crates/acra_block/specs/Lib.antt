pub mod Keys
pub mod Places
pub mod Containers
pub mod Characters
pub mod Cells
