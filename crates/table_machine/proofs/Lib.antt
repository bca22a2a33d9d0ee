pub mod Carried
pub mod Statements
