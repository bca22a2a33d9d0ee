pub mod Judged
pub mod Rewritten
pub mod Lone
