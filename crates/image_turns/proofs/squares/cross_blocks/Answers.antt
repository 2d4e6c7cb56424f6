-- One pair of blocks more, and all pairs.
use Rattle.std.proofs.Common.{◌≡◌, ◌*◌, refl, ap, ◌∙◌, arith}
use Rattle.std.proofs.lemmas.Grind.{common_steps}
use Rattle.image_shape.specs.Shape.{shaped_grid}
use Rattle.image_turns.specs.Blocks.{corner_crossed}
use Rattle.image_turns.proofs.SquareBlocks.{row_begins, one_pair_more, row_crossed, strip_done, all_pairs}
use Rattle.image_turns.proofs.squares.cross_blocks.Goals as goal

pub loop-column-init : goal.loop-column-init
loop-column-init g c = row_begins c.args.shape c.args.cells.now c.loop-line.cells c.loop-from.from _ 0 c.loop-line.line c.loop-line.invariant c.max-column.result refl c.max-column.ensures

pub loop-column-preserved : goal.loop-column-preserved
loop-column-preserved g c =
    one_pair_more c.args.shape c.args.cells.now c.loop-column.cells c.loop-from.from _ c.loop-column.column c.loop-line.line c.loop-column.invariant c.requires.image.square
    (omega (arith, c.max-column.ensures)) (omega (arith, c.max-column.ensures)) (omega arith) c.cross_at.new.cells c.cross_at.ensures

pub loop-line-preserved : goal.loop-line-preserved
loop-line-preserved g c = row_crossed c.args.shape c.args.cells.now c.loop-column.cells c.loop-from.from _ c.loop-column.column c.loop-line.line c.loop-column.invariant (omega arith)

pub loop-from-preserved : goal.loop-from-preserved
loop-from-preserved g c =
    (strip_done c.args.shape c.args.cells.now c.loop-line.cells c.loop-from.from _ 0 c.loop-line.line c.loop-line.invariant (omega arith) (omega arith), grind (arith, common_steps))

pub returns : goal.returns
returns g c =
    let all : c.loop-from.from ≡ c.args.blocks = omega (arith, c.loop-from-test.false, c.loop-from.invariant.1) in
    record {
      grid =
          all_pairs c.args.shape c.args.cells.now c.loop-from.cells c.loop-from.from c.loop-from.invariant.0
          ∙ ap (λ n. corner_crossed (16 * n) (shaped_grid c.args.cells.now c.args.shape)) all;
      outside = c.loop-from.invariant.0.outside;
    }
