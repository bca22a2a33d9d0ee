pub mod Texts
pub mod Spoken
