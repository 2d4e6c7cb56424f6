-- The clones of all rows equal them.
use Rattle.image_model.specs.Rows.{joined_rows}
use Rattle.image_shape.specs.Shape.{shaped}
use Rattle.image_ops.proofs.EqualClones.{equal_clones}
use Rattle.image_ops.proofs.clones.joined_clones.Goals as goal

pub returns-clause-joined : goal.returns-clause-joined
returns-clause-joined g c = equal_clones g.T.Clone.is_clone (joined_rows (shaped c.args.cells.now c.args.shape)) c.push_by_width.new.pixels.items c.requires.clones_equal c.in_ok-push_by_width.ensures.clones
