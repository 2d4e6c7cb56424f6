pub mod Window
pub mod Shape
pub mod Spacing
