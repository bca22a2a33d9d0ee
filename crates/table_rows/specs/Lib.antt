pub mod Looking
pub mod Filters
pub mod Reading
