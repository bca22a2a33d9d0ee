pub mod Codes
pub mod Texts
pub mod Reports
pub mod Keys
pub mod Outcomes
pub mod Untouched
