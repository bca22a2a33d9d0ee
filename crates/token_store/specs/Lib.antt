pub mod Stores
pub mod Knowing
pub mod Loading
