pub mod Seeing
pub mod Rows
pub mod Passing
pub mod Drafts
