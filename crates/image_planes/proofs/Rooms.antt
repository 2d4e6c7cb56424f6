-- Room for the blurs of a plane is room for each of its steps.
use Rattle.std.proofs.Common.{◌≡◌, ◌≤◌, ℕ, Bool, true, false, List, [], ◌∷◌, refl, arith, if◌then◌else◌}
use Rattle.image_planes.specs.Scratch.{have_blur, have_room}
use Rattle.image_planes.specs.declared.change.Step.{Step}

without_blur : (len row copy sums : ℕ) (steps : List (Step (List ℕ))) → have_blur steps ≡ false → have_room len row copy sums steps ≡ true
without_blur len row copy sums [] none = refl
without_blur len row copy sums (s ∷ ss) none = grind (arith, without_blur len row copy sums ss)

with_room : (len row copy sums : ℕ) (steps : List (Step (List ℕ))) → len ≤ copy → row ≤ sums → have_room len row copy sums steps ≡ true
with_room len row copy sums [] long wide = refl
with_room len row copy sums (s ∷ ss) long wide = grind (arith, with_room len row copy sums ss)

by_blur : (len row copy sums : ℕ) (steps : List (Step (List ℕ))) (blurs : Bool) → have_blur steps ≡ blurs → (if blurs then len else 0) ≤ copy → (if blurs then row else 0) ≤ sums → have_room len row copy sums steps ≡ true
by_blur len row copy sums steps true is long wide = with_room len row copy sums steps long wide
by_blur len row copy sums steps false is long wide = without_blur len row copy sums steps is

pub room_for : (len row copy sums : ℕ) (steps : List (Step (List ℕ))) → (if have_blur steps then len else 0) ≤ copy → (if have_blur steps then row else 0) ≤ sums → have_room len row copy sums steps ≡ true
room_for len row copy sums steps long wide = by_blur len row copy sums steps (have_blur steps) refl long wide
