pub mod LentImages
pub mod Sizes
pub mod Nested
pub mod Filled
pub mod FirstBand
pub mod TileByTile
pub mod Flattening
