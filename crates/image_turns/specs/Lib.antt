pub mod Blocks
pub mod Oriented
pub mod Quarters
pub mod Sizes
pub mod Triples
pub mod Turned
