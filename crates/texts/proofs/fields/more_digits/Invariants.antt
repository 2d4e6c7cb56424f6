-- The digits that were read, and what they are worth.
use Rattle.std.proofs.Common.{◌≡◌, ℕ, ◌<◌, ◌^◌, take, get_or}
use Rattle.std.specs.Str.Parse.{digits_value}
use Rattle.texts.specs.Digits.{IsDigit}
use Rattle.texts.proofs.fields.more_digits.Given as goal

abbrev pub invariant-loop-byte : goal.invariant-loop-byte
invariant-loop-byte l = record {
  digits : (k : ℕ) → k < l.byte-index → IsDigit (get_or l.piece k 0);
  value : digits_value 10 (take l.byte-index l.piece) ≡ l.number;
  small : l.number < 2 ^ 64;
}
