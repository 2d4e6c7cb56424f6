-- The image shows at the strip what was written there.
use borrow.Author.Rules.{rules, scaled_fits≤}
use Rattle.std.proofs.Common.{◌+◌, ◌*◌, ap, ◌∙◌, subst, arith}
use Rattle.std.proofs.lemmas.Nat.{mul-le}
use Rattle.std.proofs.Math.Nat.{add-mul}
use Rattle.image_model.specs.Grid.{patch, view}
use Rattle.image_shape.specs.Shape.{shaped_grid}
use Rattle.image_turns.specs.Oriented.{oriented, oriented_width}
use Rattle.image_writes.specs.Written.{Becomes}
use Rattle.image_writes.proofs.WindowWrites.{part_becomes}
use Rattle.image_turns.proofs.pixel_turning.orient_columns.Goals as goal

pub exact_part-requires-clause-inside : goal.exact_part-requires-clause-inside
exact_part-requires-clause-inside g c =
    let a = c.args in
    let strip = c.new-strip.ensures in
    let far = mul-le (a.left + a.count) g.row.N (oriented_width a.origin.orientation a.origin.columns a.origin.shape.height) g.row.N c.requires.across (omega arith) in (
      omega (arith, ap (λ w. w.left) strip, ap (λ w. w.width) strip, far, add-mul a.left a.count g.row.N, c.requires.image.width),
      omega (arith, ap (λ w. w.top) strip, ap (λ w. w.height) strip, c.height.ensures.value),
    )

pub returns : goal.returns
returns g c =
    let a = c.args in
    let strip = c.new-strip.ensures in
    let from = shaped_grid a.cells.now a.shape in
    let q = oriented g.row.N a.origin.orientation (shaped_grid a.source.now a.origin.shape) in
    let high = c.exact_part.ensures.part.height ∙ ap (λ w. w.height) strip ∙ c.height.ensures.value in
    subst (Becomes a.shape _ _)
    ((λ i. patch from (strip i).left (strip i).top (view q (a.left * g.row.N) 0 (a.count * g.row.N) (high i))))
    (part_becomes _ _ _ _ _ _ c.exact_part.ensures.part _ _ c.orient_rows.ensures)

pub offset_bounds-cells-part : goal.offset_bounds-cells-part
offset_bounds-cells-part g c = search (rules, scaled_fits≤) depth 2 fits 100
