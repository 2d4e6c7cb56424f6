pub mod EditLines
pub mod EditsEach
pub mod FewWords
pub mod HeldEach
pub mod NearBoxes
