pub mod CellByCell
pub mod Corners
pub mod Gathering
pub mod Parts
pub mod PixelsOfRows
pub mod RowsWritten
pub mod WindowWrites
