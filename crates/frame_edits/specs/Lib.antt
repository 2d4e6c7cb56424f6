pub mod BoxCovers
pub mod Covers
pub mod Edits
pub mod Holds
pub mod Lists
pub mod Order
pub mod Words
