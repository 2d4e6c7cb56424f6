-- All pixels are written, and the image keeps its size.
use Rattle.std.proofs.Common.{rules, ◌≡◌, ◌*◌, refl, ap, ◌∙◌, arith}
use Rattle.std.proofs.Math.Nat.{mul_comm}
use Rattle.image_model.specs.Grid.{grid_of}
use Rattle.image_model.specs.Layout.{Layout, layout}
use Rattle.image_turns.specs.Oriented.{oriented, oriented_width}
use Rattle.imgref_c.proofs.Whole.{shaped_as, oriented_written, height_stays}
use Rattle.imgref_c.proofs.turns.orient.Goals as goal

pub orient_in_place-requires-clause-same_width : goal.orient_in_place-requires-clause-same_width
orient_in_place-requires-clause-same_width g c =
    let a = c.args in
    ap (oriented_width a.orientation a.claimed.shape.width) c.cells.ensures.height ∙ omega (arith, c.oriented_size-width.ensures.width)

pub returns-clause-writes : goal.returns-clause-writes
returns-clause-writes g c =
    let a = c.args in
    let n = a.claimed.channels in
    let o = a.orientation in
    let t = a.claimed.shape in
    let same_width : oriented_width o t.width t.height ≡ t.width = omega (arith, c.oriented_size-width.ensures.width) in
    oriented_written a.cells.now c.orient_in_place.new.cells c.cells.result c.cells.ensures.width c.cells.ensures.height c.cells.ensures.stride
    n o (layout a.cells.now (n * t.width) t.height t.stride) t.width (search rules) refl (ap (λ k. k * n) same_width ∙ mul_comm t.width n) (height_stays o t.width t.height same_width)
    (c.orient_in_place.ensures.grid ∙ ap (λ (l : Layout g.row.T.Denot). oriented n o (grid_of l)) (shaped_as a.cells.now c.cells.result c.cells.ensures.width c.cells.ensures.height c.cells.ensures.stride))
    c.orient_in_place.ensures.outside
