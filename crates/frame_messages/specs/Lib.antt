pub mod Bare
pub mod Ending
pub mod Lines
pub mod Placed
pub mod Report
pub mod Told
pub mod Unreached
