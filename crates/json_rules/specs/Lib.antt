pub mod Places
pub mod Order
pub mod Found
pub mod Members
pub mod Tops
pub mod Past
