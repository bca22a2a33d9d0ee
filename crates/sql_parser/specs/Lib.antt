pub mod Judging
pub mod Rewriting
