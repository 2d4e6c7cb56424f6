-- Where rows touch, the joined rows are the first cells, and all of them are there.
use Rattle.std.proofs.Common.{◌≡◌, ◌<◌, ◌∙◌, sym, ap, length, arith}
use Rattle.image_model.proofs.Rows.{joined_in_place, length-joined_rows}
use Rattle.image_shape.specs.Shape.{shape_width, shape_height, shape_stride}
use Rattle.image_ops.proofs.clones.contiguous.Goals as goal

pub slice_bounds-result-end : goal.slice_bounds-result-end
slice_bounds-result-end g c =
    let cells = c.args.cells.now in
    let s = c.args.shape in
    let touch : 0 < shape_width s → 0 < shape_height s → shape_width s ≡ shape_stride s = λ _ _. omega arith in
    rw c.pixel_count.ensures
    (sym (length-joined_rows cells (shape_width s) (shape_height s) (shape_stride s) c.requires.fits) ∙ ap length (joined_in_place cells (shape_width s) (shape_height s) (shape_stride s) c.requires.fits touch))

pub returns-then-width-stride-clause-joined : goal.returns-then-width-stride-clause-joined
returns-then-width-stride-clause-joined g c =
    let cells = c.args.cells.now in
    let s = c.args.shape in
    let touch : 0 < shape_width s → 0 < shape_height s → shape_width s ≡ shape_stride s = λ _ _. omega arith in
    rw c.pixel_count.ensures (sym (joined_in_place cells (shape_width s) (shape_height s) (shape_stride s) c.requires.fits touch))
