mod Blurred
mod FirstPixels
mod LastRow
mod Padding
pub mod Replaced
mod Shares
pub mod StripedRows
mod WrappedSums
