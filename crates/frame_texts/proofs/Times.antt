-- The frames whose time is in a range.
use Rattle.std.proofs.Common.{◌≡◌, ◌↔◌, ℕ, ◌+◌, ◌-◌, ◌*◌, ◌/◌, ◌%◌, ◌<◌, ◌≤◌, Option, Some, None, refl, subst, sym, arith}
use Rattle.std.proofs.Math.Nat.{mul-le-mul_right}
use Rattle.std.proofs.lemmas.Nat.{div-add-mod', mod_below, le-div, div_below}
use Rattle.frame_texts.specs.Ranges.{frame_at, end_at, frames_from, frames_in, IsFrom, IsBefore, IsAmong, AreExactly}
use Rattle.frame_texts.specs.declared.ranges.Range.{Range}
use Rattle.frame_texts.specs.declared.ranges.Range.TheVariants.{Frames, Times}
use Rattle.frame_texts.specs.declared.rate.Rate.{Rate}

-- a quotient that is rounded up is at most a number exactly where the whole is at most so many times the divisor
at_most : (a step n : ℕ) → 0 < step → ((a + (step - 1)) / step ≤ n) ↔ (a ≤ n * step)
at_most a step n some =
    let b : ℕ = a + (step - 1) in
    let whole : b / step * step + b % step ≡ b = div-add-mod' b step in
    let left : b % step < step = mod_below b step some in (
      λ few. let times : b / step * step ≤ n * step = mul-le-mul_right step few in omega (arith, whole, left, times, some),
      λ within. let below : b / step < n + 1 = div_below b step (n + 1) some (omega (arith, some, within)) in omega (arith, below),
    )

-- and above it where the whole is more
above : (a step n : ℕ) → 0 < step → (n < (a + (step - 1)) / step) ↔ (n * step < a)
above a step n some =
    let b : ℕ = a + (step - 1) in
    let whole : b / step * step + b % step ≡ b = div-add-mod' b step in (
      λ many. let times : (n + 1) * step ≤ b / step * step = mul-le-mul_right step (omega (arith, many)) in omega (arith, whole, times, some),
      λ more. let least : n + 1 ≤ b / step = le-div (n + 1) b step some (omega (arith, some, more)) in omega (arith, least),
    )

-- a frame comes with the first of a time or after it exactly where it isn't before that time
from_first : (rate : Rate) (time n : ℕ) → 0 < rate.seconds → n < 18446744073709551615 → (frame_at rate time ≤ n) ↔ IsFrom rate time n
from_first rate time n some below =
    let it = at_most (time * rate.frames) (rate.seconds * 1000000000) n (omega (arith, some)) in
    (λ few. it.0 (omega (arith, few, below)), λ is. let few = it.1 is in omega (arith, few))

-- and before the end exactly where its time is before the end's
before_end : (rate : Rate) (to : Option ℕ) (n : ℕ) → 0 < rate.seconds → n < 18446744073709551615 → (n < end_at rate to) ↔ IsBefore rate to n
before_end rate None n some below = (λ _. tt, λ _. below)
before_end rate (Some time) n some below =
    let it = above (time * rate.frames) (rate.seconds * 1000000000) n (omega (arith, some)) in
    (λ many. it.0 (omega (arith, many)), λ is. let many = it.1 is in omega (arith, many, below))

among : (first end n : ℕ) → IsAmong (frames_from first end) n ↔ ((first ≤ n) × (n < end))
among first end n = grind arith

pub found_exactly : (rate : Option Rate) (range : Range) → AreExactly rate range (frames_in rate range)
found_exactly rate (Frames first end) = refl
found_exactly None (Times from to) = refl
found_exactly (Some rate) (Times from to) = λ frames seconds n below.
    let first : ℕ = frame_at rate from in
    let end : ℕ = end_at rate to in
    let found : frames_in (Some rate) (Times from to) ≡ frames_from first end = grind arith in
    let both = among first end n in
    let start = from_first rate from n seconds below in
    let stop = before_end rate to n seconds below in
    subst (λ (f : Option (ℕ × ℕ)). IsAmong f n ↔ (IsFrom rate from n × IsBefore rate to n)) (sym found) (
      λ is. let b = both.0 is in (start.0 b.0, stop.0 b.1),
      λ is. both.1 (start.1 is.0, stop.1 is.1),
    )
