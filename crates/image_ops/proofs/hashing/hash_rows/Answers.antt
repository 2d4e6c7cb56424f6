-- One row more is fed.
use Rattle.image_shape.specs.Shape.{shaped}
use Rattle.image_ops.proofs.FirstRows.{one_row_fed}
use Rattle.image_ops.proofs.hashing.hash_rows.Goals as goal

pub loop-y-preserved : goal.loop-y-preserved
loop-y-preserved g c =
    one_row_fed g.H.Hasher.write (shaped c.args.cells.now c.args.shape) c.loop-y.y c.hash_size.new.state c.loop-y.state c.write.new.self c.row.result.now c.row.ensures.value c.loop-y.invariant c.write.ensures
