pub mod Shifting
pub mod Compacting
pub mod Moving
pub mod Stretches
pub mod MovedWindows
