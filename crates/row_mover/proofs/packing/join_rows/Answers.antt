-- Rows that touch are joined already.
use Rattle.std.proofs.Common.{◌≡◌, ◌<◌, ◌*◌, ◌++◌, ◌∙◌, drop, sym, ap, arith}
use Rattle.std.proofs.Common.{take-append-drop}
use Rattle.image_model.proofs.Rows.{joined_in_place}
use Rattle.image_shape.specs.Shape.{shape_width, shape_height, shape_stride}
use Rattle.row_mover.proofs.packing.join_rows.Goals as goal

pub returns-then-width-stride : goal.returns-then-width-stride
returns-then-width-stride g c =
    let cells = c.args.cells.now in
    let w = shape_width c.args.shape in
    let h = shape_height c.args.shape in
    let touch : 0 < w → 0 < h → w ≡ shape_stride c.args.shape = λ _ _. omega (arith, c.if-width-stride.true, c.width.ensures.value, c.stride.ensures.value) in
    record { cells = sym (take-append-drop (w * h) cells) ∙ ap (λ l. l ++ drop (w * h) cells) (sym (joined_in_place cells w h (shape_stride c.args.shape) c.requires.fits touch)) }
