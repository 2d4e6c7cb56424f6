pub mod Fields
pub mod Line
pub mod Script
pub mod Output
pub mod Reading
