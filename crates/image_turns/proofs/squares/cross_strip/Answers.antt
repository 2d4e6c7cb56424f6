-- The start of a row, one pair more, the end of a row, and all pairs.
use Rattle.std.proofs.Common.{refl, arith}
use Rattle.image_turns.proofs.Diagonals.{row_begins, one_crossed, row_crossed, strip_shown, strip_outside}
use Rattle.image_turns.proofs.squares.cross_strip.Goals as goal

pub loop-x-init : goal.loop-x-init
loop-x-init g c = row_begins c.args.shape c.args.cells.now c.loop-y.cells c.args.left c.args.right 0 c.loop-y.y c.loop-y.invariant c.max-x.result refl c.max-x.ensures

pub loop-x-preserved : goal.loop-x-preserved
loop-x-preserved g c =
    one_crossed c.args.shape c.args.cells.now c.loop-x.cells c.args.left c.args.right c.loop-x.x c.loop-y.y c.loop-x.invariant c.requires.image.fits c.requires.image.square (omega arith) (omega arith) (omega arith) (omega arith)
    c.cell.result c.cell-in-loop-x.result c.cell.ensures.value c.cell-in-loop-x.ensures.value c.swap_cells.new.row c.swap_cells.ensures.as_many c.swap_cells.ensures.swapped

pub loop-y-preserved : goal.loop-y-preserved
loop-y-preserved g c = row_crossed c.args.shape c.args.cells.now c.loop-x.cells c.args.left c.args.right c.loop-x.x c.loop-y.y c.loop-x.invariant (omega arith)

pub returns : goal.returns
returns g c = record {
  grid = strip_shown c.args.shape c.args.cells.now c.loop-y.cells c.args.left c.args.right 0 c.loop-y.y c.loop-y.invariant c.requires.image.square (omega arith);
  outside = strip_outside c.args.shape c.args.cells.now c.loop-y.cells c.args.left c.args.right 0 c.loop-y.y c.loop-y.invariant c.requires.image.square (omega arith);
}
