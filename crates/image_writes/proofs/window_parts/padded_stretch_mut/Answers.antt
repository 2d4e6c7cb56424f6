-- The window shows the view.
use Rattle.std.proofs.Common.{true}
use Rattle.image_model.proofs.Windows.{layout_shows}
use Rattle.image_shape.specs.Shape.{shaped}
use Rattle.image_shape.specs.Window.{as_window}
use Rattle.image_writes.proofs.window_parts.padded_stretch_mut.Goals as goal

pub returns-clause-view : goal.returns-clause-view
returns-clause-view g c =
    layout_shows (shaped c.args.cells.now c.args.shape) c.stretch-stretch.ensures.holds_width c.requires.fits (as_window c.args.window) c.requires.inside true
