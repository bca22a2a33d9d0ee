pub mod Gapless
pub mod Deep
