pub mod Turns
pub mod Status
pub mod Numbering
pub mod Calls
pub mod Claims
pub mod Blurs
pub mod Words
