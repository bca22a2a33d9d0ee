pub mod Index
pub mod PlaceMaps
pub mod ValueMaps
pub mod Made
pub mod Kept
