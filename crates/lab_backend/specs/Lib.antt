pub mod Described
pub mod Sessions
pub mod Backend
pub mod Serving
pub mod Laws
