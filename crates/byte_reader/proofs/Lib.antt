pub mod Steps
pub mod Taken
pub mod Widths
pub mod Texts
pub mod Within
pub mod Faults
