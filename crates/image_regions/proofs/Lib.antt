pub mod ByTable
pub mod LevelTables
mod LookedAt
mod Pending
mod Runs
mod Zeros
