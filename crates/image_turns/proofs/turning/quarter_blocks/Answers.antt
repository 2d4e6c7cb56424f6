-- One block more, and all blocks.
use Rattle.std.proofs.Common.{◌-◌, ap, ◌∙◌, arith, inl, min}
use Rattle.image_turns.proofs.Quarters.{before_block, becomes_quartered}
use Rattle.image_turns.proofs.Windowed.{shows_more}
use Rattle.image_turns.proofs.turning.quarter_blocks.Goals as goal

pub loop-left-preserved : goal.loop-left-preserved
loop-left-preserved g c =
    let s = c.args.shape in
    let is_column = c.min-column.ensures ∙ ap (λ n. min c.loop-left.left (n - 16)) c.width-width.ensures.value in
    let is_line = c.min-line.ensures ∙ ap (λ n. min c.loop-top.top (n - 16)) c.height-height.ensures.value in
    shows_more c.loop-left.invariant _ _ 16 16 c.quarter_at.ensures (λ x y column line. before_block s.width s.height _ _ _ _ x y is_column is_line column line c.requires.wide c.requires.high)

pub returns : goal.returns
returns g c = becomes_quartered c.args.from.crossing c.requires.sizes c.loop-top.invariant (λ x y column line. inl (omega (arith, line, c.loop-top-test.false, c.height-height.ensures.value)))
