pub mod Form
pub mod Reading
pub mod Fields
pub mod Files
pub mod Whole
pub mod Master
