-- The blocks so far are equal, and the last one meets or overlaps them.
use Rattle.std.proofs.Common.{◌≡◌, ◌&&◌, ◌+◌, ◌-◌, ◌≤◌, length, true, false, sym, ◌∙◌, arith}
use Rattle.image_ops.proofs.ShortRows.{parts_equal, block_equal, block_differs}
use Rattle.image_ops.proofs.short.have_equal_blocks.Goals as goal

pub returns-then-not-are_all_equal : goal.returns-then-not-are_all_equal
returns-then-not-are_all_equal g c =
    let within : c.loop-done.done + g.row.N ≤ length c.args.first.now = omega arith in
    let differs : c.are_all_equal.result ≡ false = grind arith in
    sym (block_differs g.T.PartialEq.eq c.args.first.now c.args.second.now c.loop-done.done g.row.N c.requires.as_many within (sym c.are_all_equal.ensures ∙ differs))

pub loop-done-preserved : goal.loop-done-preserved
loop-done-preserved g c =
    let within : c.loop-done.done + g.row.N ≤ length c.args.first.now = omega arith in
    let same : c.are_all_equal.result ≡ true = grind arith in (
      within,
      block_equal g.T.PartialEq.eq c.args.first.now c.args.second.now c.loop-done.done g.row.N c.requires.as_many within
          ∙ (λ i. c.loop-done.invariant.1 i && (sym c.are_all_equal.ensures ∙ same) i),
    )

pub returns : goal.returns
returns g c =
    let last = length c.args.first.now - g.row.N in
    let met : last ≤ c.loop-done.done = omega (arith, c.loop-done-test.false) in
    (λ i. sym c.loop-done.invariant.1 i && c.are_all_equal-2.ensures i)
    ∙ parts_equal g.T.PartialEq.eq c.args.first.now c.args.second.now last c.loop-done.done c.requires.as_many met c.loop-done.invariant.0
