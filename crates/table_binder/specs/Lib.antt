pub mod Naming
pub mod Binding
pub mod Bound
pub mod Sets
pub mod Keys
