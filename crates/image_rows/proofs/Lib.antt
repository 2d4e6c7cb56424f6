pub mod RowsLeft
pub mod Cuts
pub mod IterValues
