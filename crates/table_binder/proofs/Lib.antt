pub mod Layers
pub mod Firsts
pub mod Meaning
pub mod Errs
pub mod Parts
pub mod Bindings
pub mod RowEnds
