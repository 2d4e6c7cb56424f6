pub mod Marks
pub mod Layouts
pub mod Cursors
pub mod Reading
pub mod Writing
pub mod Runs
pub mod Folds
pub mod Lenders
