-- Clones appended to an empty buffer.
use Rattle.image_ops.proofs.EqualClones.{appended_to_none}
use Rattle.image_ops.proofs.clones.cloned.Goals as goal

pub returns-clause-cells : goal.returns-clause-cells
returns-clause-cells g c =
    appended_to_none g.T.Clone.is_clone c.in_ok-buf.buf.items c.extend_from_slice.new.self.items c.args.cells.now c.in_ok-buf.ensures.items c.requires.clones_equal c.in_ok-extend_from_slice.ensures.items
