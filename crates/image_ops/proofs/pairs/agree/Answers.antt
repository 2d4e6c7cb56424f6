-- The closure's answer at one pair more.
use Rattle.std.proofs.Common.{length, refl, arith, below_more}
use Rattle.std.proofs.lemmas.Option.{slice_get_read}
use Rattle.image_ops.proofs.pairs.agree.Goals as goal

pub returns-then-not-f : goal.returns-then-not-f
returns-then-not-f g c =
    let first = slice_get_read c.args.first.now (length c.args.first.now) c.loop-k.k _ refl (omega arith) c.index-first-k.is in
    let second = slice_get_read c.args.second.now (length c.args.second.now) c.loop-k.k _ refl (omega (arith, c.requires.as_many)) c.index-second-k.is in
    (c.loop-k.k, (omega arith, (c.loop-k.invariant, record { first = _; second = _; first_is = first; second_is = second; answered = c.if-not-f.ensures })))

pub loop-k-preserved : goal.loop-k-preserved
loop-k-preserved g c =
    let first = slice_get_read c.args.first.now (length c.args.first.now) c.loop-k.k _ refl (omega arith) c.index-first-k.is in
    let second = slice_get_read c.args.second.now (length c.args.second.now) c.loop-k.k _ refl (omega (arith, c.requires.as_many)) c.index-second-k.is in
    below_more _ _ c.loop-k.invariant (record { first = _; second = _; first_is = first; second_is = second; answered = c.if-not-f.ensures })
