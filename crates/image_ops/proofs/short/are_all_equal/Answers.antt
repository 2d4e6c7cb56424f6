-- One cell more is compared.
use Rattle.std.proofs.Common.{◌&&◌, ◌<◌, length, sym, ◌∙◌, arith}
use Rattle.image_ops.proofs.ShortRows.{cell_equal}
use Rattle.image_ops.proofs.short.are_all_equal.Goals as goal

pub loop-x-preserved : goal.loop-x-preserved
loop-x-preserved g c =
    let x = c.loop-x.x in
    let below : x < length c.args.first.now = omega (arith, c.loop-x-test.true, c.requires.as_many) in
    let beside : x < length c.args.second.now = omega (arith, c.loop-x-test.true, c.requires.as_many_too) in
    let cell = c.eq-same.ensures ∙ (λ i. g.T.PartialEq.eq (c.index-first-x.is i) (c.index-second-x.is i)) in
    (λ i. c.loop-x.invariant i && cell i)
    ∙ sym (cell_equal g.T.PartialEq.eq c.args.first.now c.args.second.now x c.index-first-x.result c.index-second-x.result below beside)
