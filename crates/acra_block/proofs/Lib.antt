mod Cutting
mod Pieces
mod Formed
pub mod Spelled
pub mod Sealed
mod Placed
