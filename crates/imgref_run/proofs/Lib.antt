pub mod ProgramWrites
pub mod Replays
