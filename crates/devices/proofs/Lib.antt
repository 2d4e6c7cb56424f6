pub mod DeviceBytes
pub mod Failing
pub mod Filling
pub mod Lines
pub mod Progress
