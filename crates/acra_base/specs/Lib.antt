pub mod Names
pub mod Client
pub mod Padded
pub mod Histories
