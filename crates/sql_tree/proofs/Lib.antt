pub mod Rendering
pub mod Joining
pub mod Layers
pub mod Deriving
pub mod Wholes
pub mod Lexed
pub mod Reading
