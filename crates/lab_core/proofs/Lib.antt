pub mod SessionWords
pub mod Told
pub mod Texts
mod Worked
