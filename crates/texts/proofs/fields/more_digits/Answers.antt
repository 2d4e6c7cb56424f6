use Rattle.std.proofs.Common.{◌≡◌, ◌+◌, ℕ, false, get_or, take_all, ap, sym, ◌∙◌, arith}
use Rattle.std.specs.Char.{is_ascii_digit}
use Rattle.std.specs.Str.Parse.{digits_value}
use Rattle.std.proofs.lemmas.Bool.Decides.{nat_tests}
use borrow.Author.Count.{below_more}
use Rattle.texts.specs.Digits.{IsDigit}
use Rattle.texts.proofs.LongNumbers.{digits_are, digits_are_not, no_digits, too_great, value_more}
use Rattle.texts.proofs.fields.more_digits.Goals as goal

pub returns-then-not-is_ascii_digit : goal.returns-then-not-is_ascii_digit
returns-then-not-is_ascii_digit c =
    let at = c.loop-byte.byte-index in
    let other : is_ascii_digit (get_or c.args.piece.now at 0) ≡ false = cc in
    sym (digits_are_not at c.args.piece.now c.loop-byte-test.true other)

pub returns-in_err-number : goal.returns-in_err-number
returns-in_err-number c =
    let l = c.loop-byte in
    let more = value_more l.byte-index l.number c.args.piece.now c.loop-byte-test.true (cc) l.invariant.value in
    let great = c.with_digit.ensures.too_great (c.in_err-number.was) in
    c.from_residual.ensures ∙ sym (too_great (l.byte-index + 1) c.args.piece.now (omega (arith, more.1, great)))

pub loop-byte-preserved : goal.loop-byte-preserved
loop-byte-preserved c =
    let l = c.loop-byte in
    let more = value_more l.byte-index l.number c.args.piece.now c.loop-byte-test.true (cc) l.invariant.value in
    let is = c.with_digit.ensures.value c.in_ok-number.number c.in_ok-number.was in
    record {
      digits = below_more (λ (k : ℕ). IsDigit (get_or c.args.piece.now k 0)) l.byte-index l.invariant.digits more.0;
      value = omega (arith, more.1, is);
      small = c.with_digit.ensures.small c.in_ok-number.number c.in_ok-number.was;
    }

pub returns-then-is_empty : goal.returns-then-is_empty
returns-then-is_empty c = sym (no_digits c.args.piece.now (grind (arith, nat_tests)))

pub returns : goal.returns
returns c =
    let l = c.loop-byte in
    let piece = c.args.piece.now in
    let value : digits_value 10 piece ≡ l.number = ap (digits_value 10) (sym (take_all l.byte-index piece (omega arith))) ∙ l.invariant.value in
    sym (digits_are piece l.number (grind (arith, nat_tests)) (λ k few. l.invariant.digits k (omega arith)) value (omega arith))
