-- The bytes of a plane have no padding, before a turn and after it.
use Rattle.std.proofs.Common.{rules, ◌≡◌, ◌*◌, ◌∙◌, ℕ, List, length, sym, ap}
use Rattle.std.proofs.Math.Nat.{mul_comm}
use Rattle.image_model.specs.Grid.{grid_of}
use Rattle.image_model.specs.Layout.{layout}
use Rattle.image_model.specs.Rows.{grid_pixels}
use Rattle.image_turns.specs.Oriented.{oriented, oriented_width}
use Rattle.image_planes.proofs.Parts.{plane_pixels, turned_width}
use Rattle.image_planes.proofs.target.turn_plane.Goals as goal

pub orient_pixels-requires-clause-width : goal.orient_pixels-requires-clause-width
orient_pixels-requires-clause-width c =
    let a = c.args in
    let o = c.orientation_of-orientation.ensures in
    let high = c.new-source_shape.ensures.height in
    c.new-shape.ensures.width ∙ mul_comm a.size a.rows ∙ ap (λ n. n * a.size) (sym ((λ i. oriented_width (o i) a.columns (high i)) ∙ turned_width a.quarter a.columns a.rows))

pub returns : goal.returns
returns c =
    let a = c.args in
    let o = c.orientation_of-orientation.ensures in
    let s = c.new-source_shape.ensures in
    let t = c.new-shape.ensures in
    let new : List ℕ = c.orient_pixels.new.cells in
    let source : List ℕ = a.source.now in
    let long : length new ≡ a.size * a.rows * a.columns = search rules in
    sym (plane_pixels new (a.size * a.rows) a.columns long)
    ∙ ap grid_pixels (sym (λ i. grid_of (layout new (t.width i) (t.height i) (t.stride i))) ∙ c.orient_pixels.ensures.grid ∙ (λ i. oriented a.size (o i) (grid_of (layout source (s.width i) (s.height i) (s.stride i)))))
