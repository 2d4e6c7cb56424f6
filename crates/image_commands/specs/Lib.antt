pub mod PlaceTests
pub mod Commands
pub mod Changes
