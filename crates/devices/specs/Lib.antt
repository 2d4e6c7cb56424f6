pub mod Device
pub mod Whole
pub mod Fault
pub mod FileIds
