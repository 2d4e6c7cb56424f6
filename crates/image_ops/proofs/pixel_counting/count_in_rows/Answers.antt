-- No row is counted yet.
use Rattle.std.proofs.Common.{rules, ◌≡◌, ℕ, ◌+◌, ◌<◌, ◌*◌, ◌^◌, ◌∙◌, ap, length, List, sum_by, arith}
use Rattle.std.specs.List.{flat_map}
use Rattle.image_model.specs.Rows.{grid_pixels, grid_rows}
use Rattle.image_model.proofs.Rows.{grid_joined_rows_of, length-joined_rows}
use Rattle.image_rows.specs.Rows.{refs_left}
use Rattle.image_shape.specs.Shape.{shape_width, shape_height, shape_stride, shaped, shaped_grid}
use Rattle.image_ops.specs.PixelCounts.{times_in_row, times_shown}
use Rattle.image_ops.proofs.pixel_counting.count_in_rows.Goals as goal

pub loop-row-init : goal.loop-row-init
unfolding times_shown
loop-row-init g c =
    let s = c.args.shape in
    let l = shaped c.args.cells.now s in
    let rows : refs_left c.into_iter-row-iterator.result ≡ grid_rows (shaped_grid c.args.cells.now s) = search rules in
    let total : length (grid_pixels (shaped_grid c.args.cells.now s)) ≡ shape_width s * shape_height s = ap length (grid_joined_rows_of l) ∙ length-joined_rows c.args.cells.now (shape_width s) (shape_height s) (shape_stride s) c.requires.fits in
    let none : (n : ℕ) → 0 + n ≡ n = λ n. omega arith in
    let bound : shape_width s * shape_height s < 2 ^ 64 = search rules in (
      tt,
      tt,
      omega (arith, total, bound),
      omega (arith, ap (λ (xs : List (List g.row.T.Denot)). length (flat_map (λ r. r) xs)) rows),
      none (sum_by (times_in_row g.T.PartialEq.eq c.args.value.now) (refs_left c.into_iter-row-iterator.result)) ∙ ap (λ (xs : List (List g.row.T.Denot)). sum_by (times_in_row g.T.PartialEq.eq c.args.value.now) xs) rows,
    )
