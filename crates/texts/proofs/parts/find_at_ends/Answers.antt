use Rattle.std.proofs.Common.{◌+◌, ◌-◌, eqb, Some, length, sym, ap, ◌∙◌, arith}
use Rattle.std.proofs.lemmas.List.{take_rest}
use Rattle.texts.proofs.Positions.{first_within, first_of_last, nowhere}
use Rattle.texts.proofs.parts.find_at_ends.Goals as goal

pub returns-then-before : goal.returns-then-before
returns-then-before g c =
    let first = c.lanes_before-before.ensures in
    ap (λ k. Some (c.args.start + k)) first
    ∙ sym (first_within (λ b. eqb b c.args.byte) g.row.N c.args.start c.args.bytes.now c.requires.covers.0 (omega (arith, first)))

pub returns-then-before-2 : goal.returns-then-before-2
returns-then-before-2 g c =
    let bytes = c.args.bytes.now in
    let first = c.lanes_before-before.ensures in
    let last = rw (take_rest bytes (length bytes - g.row.N)) at c.lanes_before-before-2.ensures in
    ap (λ k. Some (c.args.start + (length bytes - g.row.N) + k)) last
    ∙ sym (first_of_last (λ b. eqb b c.args.byte) g.row.N c.args.start bytes c.requires.covers.0 c.requires.covers.1 (omega (arith, first)) (omega (arith, last)))

pub returns : goal.returns
returns g c =
    let bytes = c.args.bytes.now in
    let first = c.lanes_before-before.ensures in
    let last = rw (take_rest bytes (length bytes - g.row.N)) at c.lanes_before-before-2.ensures in
    sym (nowhere (λ b. eqb b c.args.byte) g.row.N c.args.start bytes c.requires.covers.0 c.requires.covers.1 (omega (arith, first)) (omega (arith, last)))
