pub mod Keys
pub mod Finding
pub mod Changing
pub mod Differing
pub mod Updating
pub mod Shelves
pub mod Doing
