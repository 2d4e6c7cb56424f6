-- Which pixels a box touches: those of its cover's rectangle.
use Rattle.std.proofs.Common.{◌↔◌, ℕ, ◌+◌, ◌-◌, ◌*◌, ◌/◌, ◌<◌, ◌≤◌, ◌&&◌, nat_lt, arith}
use Rattle.std.specs.Prelude.{IsTrue}
use Rattle.std.proofs.lemmas.Bool.Decides.{nat_tests}
use Rattle.frame_texts.specs.Boxes.{side_of, is_touched, pixels_up, place_of, units_of, window_of_box, TouchesExactly}
use Rattle.frame_texts.specs.declared.boxes.Decimal.{Decimal}
use Rattle.frame_texts.specs.declared.boxes.Tracked.{Tracked}

-- a pixel is in the rectangle, in one direction
abbrev IsIn : ℕ × ℕ → ℕ → Type 0
IsIn side x = (side.0 ≤ x) × (x < side.0 + side.1)

side_by : (start extent x : ℕ) → IsTrue (nat_lt start ((x + 1) * 100000000000000000000) && nat_lt (x * 100000000000000000000) (start + extent)) ↔ IsIn (start / 100000000000000000000, pixels_up (start + extent) - start / 100000000000000000000) x
side_by start extent x = (λ t. (grind (arith, nat_tests), grind (arith, nat_tests)), λ h. grind (arith, nat_tests))

pub side_touched : (start extent : Decimal) (x : ℕ) → IsTrue (is_touched start extent x) ↔ IsIn (side_of start extent) x
side_touched start extent x = side_by (place_of start) (units_of extent) x

pub touches_exactly : (b : Tracked) → TouchesExactly b (window_of_box b)
touches_exactly b x y =
    let across = side_touched b.left b.width x in
    let down = side_touched b.top b.height y in
    (λ t. (across.0 t.0, down.0 t.1), λ h. (across.1 h.0, down.1 h.1))
