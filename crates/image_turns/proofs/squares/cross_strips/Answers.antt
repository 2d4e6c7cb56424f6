-- The pairs of blocks, one strip more, and all strips.
use Rattle.std.proofs.Common.{arith}
use Rattle.image_turns.proofs.SquareBlocks.{one_strip_more, all_strips}
use Rattle.image_turns.proofs.squares.cross_strips.Goals as goal

pub loop-left-init : goal.loop-left-init
loop-left-init g c = (c.cross_blocks.ensures, omega arith)

pub loop-left-preserved : goal.loop-left-preserved
loop-left-preserved g c =
    (one_strip_more c.args.shape c.args.cells.now c.loop-left.cells c.loop-left.left c.loop-left.invariant.0 c.requires.image.square _ c.cross_strip.new.cells (omega arith) c.cross_strip.ensures, omega arith)

pub returns : goal.returns
returns g c = all_strips c.args.shape c.args.cells.now c.loop-left.cells c.loop-left.left c.loop-left.invariant.0 c.requires.image.square (omega arith)
