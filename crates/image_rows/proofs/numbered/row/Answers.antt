use Rattle.std.proofs.Common.{◌≡◌, ◌-◌, take, drop, ◌∙◌, arith}
use Rattle.image_model.proofs.OneRow.{row_is}
use Rattle.image_shape.specs.Shape.{shaped}
use Rattle.image_rows.proofs.numbered.row.Goals as goal

pub returns-clause-value : goal.returns-clause-value
returns-clause-value g c =
    let l = shaped c.args.cells.now c.args.shape in
    let many : c.range.result.end - c.range.result.start ≡ l.width = omega (arith, c.range.ensures.start, c.range.ensures.end, c.any_row.ensures.len) in
    (λ i. take (many i) (drop ((c.range.ensures.start ∙ c.any_row.ensures.start) i) l.cells)) ∙ row_is l c.args.y c.requires.fits c.requires.row
