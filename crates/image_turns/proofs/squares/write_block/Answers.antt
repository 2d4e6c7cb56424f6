-- The image shows at the block what was written there.
use Rattle.std.proofs.Common.{ap, ◌∙◌, false, subst}
use Rattle.image_model.specs.Grid.{grid_of, patch}
use Rattle.image_model.specs.Layout.{layout, pixel}
use Rattle.image_shape.specs.Shape.{shaped_grid}
use Rattle.image_turns.specs.Blocks.{read_over}
use Rattle.image_writes.specs.Written.{Becomes}
use Rattle.image_turns.proofs.Shuffles.{as_block}
use Rattle.image_writes.proofs.WindowWrites.{part_becomes}
use Rattle.image_turns.proofs.SquareBlocks.{read_plain}
use Rattle.image_turns.proofs.squares.write_block.Goals as goal

pub returns : goal.returns
unfolding grid_of
returns g c =
    let a = c.args in
    let square = c.block_shape in
    let from = shaped_grid a.cells.now a.shape in
    let block = ap (read_over false) (as_block square.result square.ensures.width square.ensures.height square.ensures.stride a.block.now) ∙ read_plain 16 16 (pixel (layout a.block.now 16 16 16)) in
    subst (Becomes a.shape _ _)
    ((λ i. patch from (c.new.ensures i).left (c.new.ensures i).top (block i)))
    (part_becomes _ _ _ _ _ _ c.exact_part.ensures.part _ _ c.read_rows.ensures)
