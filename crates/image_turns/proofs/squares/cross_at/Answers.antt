-- Both blocks are read, transposed, before one is written.
use Rattle.std.proofs.Common.{◌≡◌, ℕ, ◌*◌, ap, ◌∙◌, arith}
use Rattle.image_model.specs.Grid.{grid_of, patch, view}
use Rattle.image_model.specs.Layout.{pixel}
use Rattle.image_model.proofs.Places.{outside_trans}
use Rattle.image_shape.specs.Shape.{shaped, shaped_grid}
use Rattle.image_turns.specs.Blocks.{block_grid}
use Rattle.image_turns.specs.Oriented.{oriented}
use Rattle.image_turns.specs.declared.pixel_turning.Orientation.TheVariants.{Transposed}
use Rattle.image_turns.proofs.Oriented.{placed_cells}
use Rattle.image_turns.proofs.PlacesCrossed.{both_pixels_crossed}
use Rattle.image_turns.proofs.squares.cross_at.Goals as goal

pub returns : goal.returns
unfolding grid_of
returns g c =
    let a = c.args in
    let s = a.shape in
    let from = shaped_grid a.cells.now s in
    let once : (n : ℕ) → n ≡ n * 1 = λ n. omega arith in
    let upper = ap block_grid c.as_slice.ensures ∙ c.read_across.ensures.grid ∙ placed_cells Transposed _ ∙ (λ i. oriented 1 Transposed (view from (once a.left i) a.top 16 16)) in
    let lower = ap block_grid c.as_slice-2.ensures ∙ c.read_across-2.ensures.grid ∙ placed_cells Transposed _ ∙ (λ i. oriented 1 Transposed (view from (once a.top i) a.left 16 16)) in
    record {
      grid =
          c.write_block-2.ensures.grid
          ∙ (λ i. patch ((c.write_block.ensures.grid ∙ (λ j. patch from (once a.top j) a.left (upper j))) i) (once a.left i) a.top (lower i))
          ∙ both_pixels_crossed 1 (omega arith) s.width s.height (pixel (shaped a.cells.now s)) a.left a.top 16 16;
      outside = outside_trans _ _ _ c.write_block.ensures.outside c.write_block-2.ensures.outside;
    }
