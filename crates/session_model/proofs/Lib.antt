pub mod Parts
pub mod Executed
pub mod Carried
pub mod Shows
pub mod Requested
pub mod Faulty
pub mod Meant
pub mod OneStream
