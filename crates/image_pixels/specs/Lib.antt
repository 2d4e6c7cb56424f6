pub mod Loans
pub mod Marks
pub mod Pixels
