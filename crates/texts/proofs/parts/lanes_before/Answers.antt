use Rattle.std.proofs.Common.{eqb, take, sym, ap, ◌∙◌, arith, length-take-le}
use Rattle.std.proofs.lemmas.Simd.{leading_from_mask_l, trailing_mask_l}
use lib.Count.{count_trailing_zeros}
use Rattle.texts.proofs.parts.lanes_before.Goals as goal

pub returns-then-marked-eq0 : goal.returns-then-marked-eq0
returns-then-marked-eq0 g c =
    let first = take g.row.N c.args.bytes.now in
    sym (leading_from_mask_l (λ b. eqb b c.args.byte) first (omega (arith, c.marks-marked.ensures)) ∙ length-take-le g.row.N c.args.bytes.now c.requires.long)

pub returns : goal.returns
returns g c =
    let first = take g.row.N c.args.bytes.now in
    let long = length-take-le g.row.N c.args.bytes.now c.requires.long in
    ap (count_trailing_zeros 64) c.marks-marked.ensures ∙ trailing_mask_l (λ b. eqb b c.args.byte) 64 first (omega arith) (omega (arith, c.marks-marked.ensures))
