pub mod Nodes
pub mod Segments
pub mod Read
pub mod Equal
pub mod Mixed
pub mod Apart
