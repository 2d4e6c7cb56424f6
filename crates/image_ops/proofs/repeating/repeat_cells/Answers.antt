-- One cell more, of the pattern or of the cell a pattern before.
use Rattle.std.proofs.Common.{◌<◌, length}
use Rattle.image_ops.proofs.Patterns.{first_more, next_more}
use Rattle.image_ops.proofs.repeating.repeat_cells.Goals as goal

pub loop-x-preserved : goal.loop-x-preserved
loop-x-preserved g c =
    let here : c.loop-x.x < length c.args.row.now = c.loop-x-test.true in
    let some : 0 < length c.args.pattern.now = c.requires.some in
    elim c.if-x-size.branch [
      | goal.then-x-size w ↦ rw w.row-is (first_more c.args.pattern.now c.args.row.now some c.loop-x.row c.loop-x.x w.index-pattern-x.result c.loop-x.invariant here w.if-x-size.true w.index-pattern-x.is)
      | goal.else-x-size w ↦ rw w.row-is (next_more c.args.pattern.now c.args.row.now some c.loop-x.row c.loop-x.x w.index-row-x.result c.loop-x.invariant here w.if-x-size.false w.index-row-x.is)
    ]
