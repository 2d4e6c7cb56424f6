-- One digit more.
use Rattle.std.proofs.Common.{◌≡◌, ℕ, ◌+◌, ◌-◌, ◌*◌, ◌/◌, ◌<◌, ◌≤◌, ◌&&◌, Bool, List, true, length, drop, get_or, take, arith, ◌∙◌}
use Rattle.std.specs.List.{list_all}
use Rattle.std.proofs.Math.Nat.{mul-le-mul_right}
use Rattle.std.proofs.lemmas.List.{at_drop_more}
use Rattle.std.proofs.lemmas.List.Folds.{list_all_more}
use Rattle.frame_texts.specs.Digits.{is_digit, worth}
use Rattle.frame_texts.proofs.digits.read_worth.Goals as goal

and_both : (a b : Bool) → a ≡ true → b ≡ true → (a && b) ≡ true
and_both a b e f = grind arith

pub loop-digit-preserved : goal.loop-digit-preserved
loop-digit-preserved c =
    let xs : List ℕ = c.args.digits.now in
    let i : ℕ = c.loop-digit.digit-index in
    let inv = c.loop-digit.invariant in
    let unit : ℕ = c.loop-digit.unit in
    let within : i < length xs = omega arith in
    let d : ℕ = get_or xs i 0 in
    let is : is_digit d ≡ true = grind arith in
    let nine : d - 48 ≤ 9 = grind arith in
    let most : (d - 48) * unit ≤ 9 * unit = mul-le-mul_right unit nine in
    let more : worth unit (drop i xs) ≡ (d - 48) * unit + worth (unit / 10) (drop (i + 1) xs) = at_drop_more (worth unit) xs i 0 within in
    record {
      digits = list_all_more is_digit xs i 0 within ∙ and_both (list_all is_digit (take i xs)) (is_digit d) inv.digits is;
      sum = omega (arith, more, inv.sum);
      small = omega (arith, most, inv.small);
      less = omega (arith, most, inv.small, inv.less);
    }
