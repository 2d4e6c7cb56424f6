use Rattle.std.proofs.Common.{append_assoc, arith}
use Rattle.texts.proofs.Decimals.{last_digit}
use Rattle.texts.proofs.writing.+push_number.Goals as goal

pub returns-clause-text : goal.returns-clause-text
returns-clause-text t c =
    let more = last_digit c.args.number (omega (arith, c.if-number-lt10.false)) (omega arith) in
    rw (c.in_ok-extend_from_slice.ensures.items, c.in_ok-push_number.ensures.text, c.last_digit-2.ensures, more) (simp append_assoc)
