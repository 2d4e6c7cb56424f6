-- One band more, and all rows.
use Rattle.std.proofs.Common.{◌+◌, ◌∙◌, arith}
use Rattle.image_turns.proofs.Quarters.{before_rows, becomes_quartered}
use Rattle.image_turns.proofs.Windowed.{shows_more}
use Rattle.image_turns.proofs.bands.quarter_bands.Goals as goal

pub loop-top-preserved : goal.loop-top-preserved
loop-top-preserved g c =
    let s = c.args.shape in
    let top = c.loop-top.top in
    let count = c.min-count.result in (
      shows_more c.loop-top.invariant.0 0 top s.width count c.quarter_band.ensures.becomes (λ x y column line. before_rows s.width s.height top top count (top + count) x y column line (omega arith) (omega arith)),
      (c.quarter_band.ensures.as_many ∙ c.loop-top.invariant.1.0, omega (arith, c.min-count.ensures, c.loop-top-test.true, c.height-height.ensures.value)),
    )

pub returns : goal.returns
returns g c = becomes_quartered c.args.from.crossing c.requires.sizes c.loop-top.invariant.0 (λ x y column line. omega (arith, line, c.loop-top-test.false, c.height-height.ensures.value))
