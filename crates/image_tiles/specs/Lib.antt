pub mod Tiling
pub mod Bands
pub mod Lending
