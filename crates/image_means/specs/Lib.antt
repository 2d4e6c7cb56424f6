pub mod Blur
pub mod Division
pub mod LineSums
pub mod Means
