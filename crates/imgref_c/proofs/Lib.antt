pub mod Tests
pub mod Whole
pub mod Boxes
pub mod Packed
pub mod Numbering
pub mod Agreeing
