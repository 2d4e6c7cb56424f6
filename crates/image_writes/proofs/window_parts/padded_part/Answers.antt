-- The window shows the view.
use Rattle.std.proofs.Common.{true, rules}
use Rattle.image_model.proofs.Windows.{shows_as}
use Rattle.image_shape.specs.Shape.{shaped}
use Rattle.image_shape.specs.Window.{as_window}
use Rattle.image_writes.proofs.window_parts.padded_part.Goals as goal

pub returns-clause-view : goal.returns-clause-view
returns-clause-view g c =
    shows_as (shaped c.args.cells.now c.args.shape) c.stretch-part.ensures.holds_width c.requires.fits (as_window c.args.window) c.requires.inside true _ (search rules)
