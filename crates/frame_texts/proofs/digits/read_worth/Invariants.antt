use Rattle.std.proofs.Common.{◌≡◌, ◌+◌, ◌*◌, ◌≤◌, ◌<◌, true, drop, take}
use Rattle.std.specs.List.{list_all}
use Rattle.frame_texts.specs.Digits.{is_digit, worth}
use Rattle.frame_texts.proofs.digits.read_worth.Given as goal

-- the digits so far are digits, and those that are left are worth what is left
abbrev pub invariant-loop-digit : goal.invariant-loop-digit
invariant-loop-digit l = record {
  digits : list_all is_digit (take l.digit-index l.digits) ≡ true;
  sum : l.sum + worth l.unit (drop l.digit-index l.digits) ≡ worth l.first l.digits;
  small : l.sum + 10 * l.unit ≤ 10 * l.first;
  less : l.sum < 10 * l.first;
}
