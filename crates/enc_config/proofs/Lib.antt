pub mod Reached
pub mod Numbers
pub mod Named
pub mod Made
pub mod Bounds
pub mod Crowd
pub mod Ordered
