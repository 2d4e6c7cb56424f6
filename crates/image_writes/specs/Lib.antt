pub mod Gathered
pub mod Mirrored
pub mod Mosaic
pub mod Part
pub mod Written
