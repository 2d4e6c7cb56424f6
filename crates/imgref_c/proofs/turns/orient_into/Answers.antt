-- All pixels are written, and the source has as many as are needed.
use Rattle.std.proofs.Common.{rules, ◌≡◌, ◌*◌, refl, sym, ap, ◌∙◌, arith}
use Rattle.std.proofs.Math.Nat.{mul_comm}
use Rattle.image_model.specs.Grid.{grid_of}
use Rattle.image_model.specs.Layout.{Layout, layout}
use Rattle.image_turns.specs.Oriented.{oriented, oriented_width, oriented_height}
use Rattle.imgref_c.proofs.Whole.{shaped_as, oriented_written}
use Rattle.imgref_c.proofs.turns.orient_into.Goals as goal

pub returns-clause-writes : goal.returns-clause-writes
returns-clause-writes g c =
    let a = c.args in
    let n = a.claimed.channels in
    let o = a.orientation in
    let t = a.claimed_source in
    let same_width : a.claimed.shape.width ≡ oriented_width o t.width t.height = omega (arith, c.if-claimed-width.false, c.oriented_size-width.ensures.width) in
    let same_height : a.claimed.shape.height ≡ oriented_height o t.width t.height = omega (arith, c.if-claimed-height.false, c.oriented_size-width.ensures.height) in
    oriented_written a.cells.now c.orient_pixels.new.cells c.cells.result c.cells.ensures.width c.cells.ensures.height c.cells.ensures.stride
    n o (layout a.source.now (n * t.width) t.height t.stride) t.width (search rules) refl (ap (λ k. k * n) (sym same_width) ∙ mul_comm a.claimed.shape.width n) (sym same_height)
    (c.orient_pixels.ensures.grid ∙ ap (λ (l : Layout g.row.T.Denot). oriented n o (grid_of l)) (shaped_as a.source.now c.cells-2.result c.cells-2.ensures.width c.cells-2.ensures.height c.cells-2.ensures.stride))
    c.orient_pixels.ensures.outside
