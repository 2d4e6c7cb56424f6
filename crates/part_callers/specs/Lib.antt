pub mod Tiles
pub mod Paths
pub mod Bands
pub mod Flattening
