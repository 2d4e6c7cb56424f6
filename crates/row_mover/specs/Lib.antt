pub use Rattle.image_model.specs.Layout
pub use Rattle.image_model.specs.Rows
pub use Rattle.image_model.specs.Shifts
pub mod State
