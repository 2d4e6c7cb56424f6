-- Both blocks are copied before one is written.
use Rattle.std.proofs.Common.{ap, ◌∙◌}
use Rattle.image_model.specs.Grid.{grid_of, patch}
use Rattle.image_model.specs.Layout.{pixel}
use Rattle.image_model.specs.Windows.{window_view}
use Rattle.image_model.proofs.Places.{outside_trans}
use Rattle.image_shape.specs.Shape.{shaped, shaped_grid}
use Rattle.image_turns.specs.Oriented.{oriented}
use Rattle.image_turns.specs.declared.pixel_turning.Orientation.TheVariants.{Transposed}
use Rattle.image_turns.proofs.BlockPairs.{pixels_inside}
use Rattle.image_turns.proofs.PlacesCrossed.{both_pixels_crossed}
use Rattle.image_turns.proofs.block_pairs.cross_pair.Goals as goal

pub copy_block-upper_shape-requires-clause-inside : goal.copy_block-upper_shape-requires-clause-inside
copy_block-upper_shape-requires-clause-inside g c = pixels_inside g.row.N c.args.shape.height c.args.shape.width _ _ _ _ _ c.requires.image.square c.new-here.ensures c.requires.column c.requires.line

pub copy_block-lower_shape-requires-clause-inside : goal.copy_block-lower_shape-requires-clause-inside
copy_block-lower_shape-requires-clause-inside g c = pixels_inside g.row.N c.args.shape.height c.args.shape.width _ _ _ _ _ c.requires.image.square c.new-across.ensures c.requires.line c.requires.column

pub write_across-requires-clause-inside : goal.write_across-requires-clause-inside
write_across-requires-clause-inside g c = pixels_inside g.row.N c.args.shape.height c.args.shape.width _ _ _ _ _ c.requires.image.square c.new-across.ensures c.requires.line c.requires.column

pub write_across-requires-2-clause-inside : goal.write_across-requires-2-clause-inside
write_across-requires-2-clause-inside g c = pixels_inside g.row.N c.args.shape.height c.args.shape.width _ _ _ _ _ c.requires.image.square c.new-here.ensures c.requires.column c.requires.line

pub returns-clause-crossed : goal.returns-clause-crossed
unfolding grid_of
returns-clause-crossed g c =
    let a = c.args in
    let s = a.shape in
    let w = a.window in
    let n = g.row.N in
    let from = shaped_grid a.cells.now s in
    let upper = ap (oriented n Transposed) (c.copy_block-upper_shape.ensures.grid ∙ ap (window_view from) c.new-here.ensures) in
    let lower = ap (oriented n Transposed) (c.copy_block-lower_shape.ensures.grid ∙ ap (window_view from) c.new-across.ensures) in
    record {
      grid =
          c.write_across-2.ensures.grid
          ∙ (λ i. patch ((c.write_across.ensures.grid ∙ (λ j. patch from (c.new-across.ensures j).left (c.new-across.ensures j).top (upper j))) i) (c.new-here.ensures i).left (c.new-here.ensures i).top (lower i))
          ∙ both_pixels_crossed n c.requires.image.some s.width s.height (pixel (shaped a.cells.now s)) w.left w.top w.width w.height;
      outside = outside_trans _ _ _ c.write_across.ensures.outside c.write_across-2.ensures.outside;
    }
