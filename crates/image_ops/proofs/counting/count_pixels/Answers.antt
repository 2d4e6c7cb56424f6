-- Where rows touch, the pixels are the first cells; and all pixels can be counted.
use Rattle.std.proofs.Common.{rules, ◌≡◌, ◌<◌, ◌*◌, ◌∙◌, sym, ap, length, arith}
use Rattle.image_model.proofs.Rows.{grid_joined_rows_of, joined_in_place, length-joined_rows}
use Rattle.image_shape.specs.Shape.{shape_width, shape_height, shape_stride, shaped, shaped_grid}
use Rattle.image_model.specs.Rows.{grid_pixels}
use Rattle.image_ops.proofs.counting.count_pixels.Goals as goal

pub slice_bounds-count_in_row-end : goal.slice_bounds-count_in_row-end
slice_bounds-count_in_row-end g c =
    let cells = c.args.cells.now in
    let s = c.args.shape in
    let touch : 0 < shape_width s → 0 < shape_height s → shape_width s ≡ shape_stride s = λ _ _. search rules in
    let count : c.pixel_count-pixels.result ≡ shape_width s * shape_height s = search rules in
    rw count (sym (length-joined_rows cells (shape_width s) (shape_height s) (shape_stride s) c.requires.fits) ∙ ap length (joined_in_place cells (shape_width s) (shape_height s) (shape_stride s) c.requires.fits touch))

pub returns-then-width-stride : goal.returns-then-width-stride
returns-then-width-stride g c =
    let cells = c.args.cells.now in
    let s = c.args.shape in
    let touch : 0 < shape_width s → 0 < shape_height s → shape_width s ≡ shape_stride s = λ _ _. search rules in
    let count : c.pixel_count-pixels.result ≡ shape_width s * shape_height s = search rules in
    rw (grid_joined_rows_of (shaped cells s), joined_in_place cells (shape_width s) (shape_height s) (shape_stride s) c.requires.fits touch, sym count) c.count_in_row.ensures

pub loop-row-init : goal.loop-row-init
loop-row-init g c =
    let s = c.args.shape in
    let count : c.pixel_count-pixels.result ≡ shape_width s * shape_height s = search rules in
    let total : length (grid_pixels (shaped_grid c.args.cells.now s)) ≡ c.pixel_count-pixels.result = ap length (grid_joined_rows_of (shaped c.args.cells.now s)) ∙ length-joined_rows c.args.cells.now (shape_width s) (shape_height s) (shape_stride s) c.requires.fits ∙ sym count in
    (tt, tt, omega (arith, total), search rules)
