-- The columns so far show the source.
use Rattle.std.proofs.Common.{◌≡◌, ◌*◌, ◌/◌, ap, ◌∙◌, arith}
use Rattle.std.proofs.lemmas.Nat.{mul-le}
use Rattle.std.proofs.Math.Nat.{add-mul}
use Rattle.image_turns.specs.Oriented.{oriented_width}
use Rattle.image_turns.proofs.Oriented.{becomes_oriented}
use Rattle.image_turns.proofs.Windowed.{InStrips, before_strip, shows_none, shows_more}
use Rattle.image_writes.proofs.PixelsOfRows.{pixels_of_row}
use Rattle.image_turns.proofs.pixel_turning.orient_strips.Goals as goal

pub returns-then-height-eq0 : goal.returns-then-height-eq0
returns-then-height-eq0 g c = becomes_oriented c.requires (shows_none (InStrips 0) _ (λ x y before. omega (arith, before))) (λ x y column line. absurd (omega (arith, line)))

pub loop-left-preserved : goal.loop-left-preserved
loop-left-preserved g c =
    let left = c.loop-left.left * g.row.N in
    let count = c.min-count.result * g.row.N in
    let next = add-mul c.loop-left.left c.min-count.result g.row.N in
    shows_more c.loop-left.invariant left 0 count c.args.shape.height c.orient_columns.ensures (λ x y column line upto. before_strip left count c.args.shape.height x y line (omega (arith, upto, next)))

pub returns : goal.returns
returns g c =
    let a = c.args in
    let width = oriented_width a.origin.orientation a.origin.columns a.origin.shape.height in
    let pixels : c.width-width.result / g.row.N ≡ width = ap (λ n. n / g.row.N) c.width-width.ensures.value ∙ pixels_of_row g.row.N width a.shape.width c.requires.some c.requires.width in
    let reached = mul-le width g.row.N c.loop-left.left g.row.N (omega (arith, pixels, c.loop-left-test.false)) (omega arith) in
    becomes_oriented c.requires c.loop-left.invariant (λ x y column line. omega (arith, column, reached, c.requires.width))
