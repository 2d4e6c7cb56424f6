-- A window that is inside has its cells.
use Rattle.image_model.proofs.Windows.{exact_within}
use Rattle.image_shape.specs.Window.{as_window}
use Rattle.image_shape.proofs.shape.Shape.stretch.Goals as goal

pub stretch_within-requires-clause-room : goal.stretch_within-requires-clause-room
stretch_within-requires-clause-room c =
    let s = c.args.self.now in
    exact_within c.args.cells s.stride s.width s.height (as_window c.args.window) c.requires.fits c.requires.inside
