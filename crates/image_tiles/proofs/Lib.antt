pub mod Tilings
pub mod BandsLeft
pub mod BandsCut
pub mod BandsCover
pub mod BandValues
pub mod Left
pub mod CountedValues
mod Cursors
