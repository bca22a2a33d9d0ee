pub mod Readers
pub mod Looks
pub mod Productions
pub mod Reads
pub mod Passes
