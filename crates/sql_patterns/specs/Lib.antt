pub mod Holes
pub mod Standing
pub mod Matching
pub mod Fingerprints
pub mod Patterns
