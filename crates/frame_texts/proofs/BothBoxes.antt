-- The box around two has each pixel that one of them touches.
use Rattle.std.proofs.Common.{◌≡◌, ◌↔◌, ℕ, ◌+◌, ◌-◌, ◌*◌, ◌<◌, ◌≤◌, ◌&&◌, Bool, true, false, nat_lt, nat_le, max, refl, arith}
use Rattle.std.specs.Prelude.{IsTrue}
use Rattle.std.proofs.lemmas.Bool.Decides.{nat_tests}
use Rattle.frame_texts.specs.Boxes.{is_touched, place_of, units_of}
use Rattle.frame_texts.specs.Tracks.{size_by, first_start, both_extent, around, HasBoth}
use Rattle.frame_texts.specs.declared.boxes.Decimal.{Decimal}
use Rattle.frame_texts.specs.declared.boxes.Tracked.{Tracked}

-- a pixel has a part of what is from one place to another
abbrev IsFrom : ℕ → ℕ → ℕ → Type 0
IsFrom start end x = (start < (x + 1) * 100000000000000000000) × (x * 100000000000000000000 < end)

from_place : (start end x : ℕ) → IsTrue (nat_lt start ((x + 1) * 100000000000000000000) && nat_lt (x * 100000000000000000000) end) ↔ IsFrom start end x
from_place start end x = (λ t. (grind (arith, nat_tests), grind (arith, nat_tests)), λ h. grind (arith, nat_tests))

touched_from : (start extent : Decimal) (x : ℕ) → IsTrue (is_touched start extent x) ↔ IsFrom (place_of start) (place_of start + units_of extent) x
touched_from start extent x = from_place (place_of start) (place_of start + units_of extent) x

-- the first of two sides
first_by : (c : Bool) (a b : Decimal) → nat_le (place_of a) (place_of b) ≡ c → (place_of (first_start a b) ≤ place_of a) × (place_of (first_start a b) ≤ place_of b)
first_by true a b e = rw e (grind (arith, nat_tests), grind (arith, nat_tests))
first_by false a b e = rw e (grind (arith, nat_tests), grind (arith, nat_tests))

has_units : (n : ℕ) → units_of (size_by n) ≡ n
has_units n = omega arith

has_side : (a long b wide : Decimal) (x : ℕ)
    → (IsTrue (is_touched a long x) → IsTrue (is_touched (first_start a b) (both_extent a long b wide) x)) × (IsTrue (is_touched b wide x) → IsTrue (is_touched (first_start a b) (both_extent a long b wide) x))
has_side a long b wide x =
    let c = nat_le (place_of a) (place_of b) in
    let start = first_by c a b refl in
    let units = has_units (max (place_of a + units_of long) (place_of b + units_of wide) - place_of (first_start a b)) in
    let from = touched_from (first_start a b) (both_extent a long b wide) x in
    let one = touched_from a long x in
    let other = touched_from b wide x in
    (λ t. from.1 (omega (arith, (one.0 t).0, start.0), omega (arith, (one.0 t).1, start.0, units)), λ t. from.1 (omega (arith, (other.0 t).0, start.1), omega (arith, (other.0 t).1, start.1, units)))

pub has_both : (a b : Tracked) → HasBoth a b (around a b)
has_both a b x y =
    let across = has_side a.left a.width b.left b.width x in
    let down = has_side a.top a.height b.top b.height y in
    (λ t. (across.0 t.0, down.0 t.1), λ t. (across.1 t.0, down.1 t.1))
