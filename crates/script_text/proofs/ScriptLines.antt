-- The lines of bytes: the next of them, and how many there are.
use Rattle.std.proofs.Common.{◌≡◌, ℕ, suc, ◌+◌, ◌≤◌, Bool, true, false, cond, eqb, List, [], ◌∷◌, length, refl, sym, arith}
use Rattle.std.specs.List.{onto_first}
use Rattle.std.proofs.lemmas.Bool.{eqb-true}
use Rattle.texts.specs.Parts.{parts_of}
use Rattle.script_text.specs.Script.{whole_lines, lines_of}

-- ---- the next line

-- an empty last piece is no line
pub no_line : (piece : List ℕ) (left : List (List ℕ)) → length piece ≡ 0 → left ≡ [] → whole_lines (piece ∷ left) ≡ []
no_line piece left empty last = rw (last, empty) refl

full : (piece : List ℕ) (b : Bool) → b ≡ eqb (length piece) 0 → (length piece ≡ 0 → ⊥) → cond b [] (piece ∷ []) ≡ piece ∷ []
full piece true test more = absurd (more (eqb-true (length piece) 0 (sym test)))
full piece false test more = refl

-- and each other piece is one
pub here_line : (piece : List ℕ) (left : List (List ℕ)) → (length piece ≡ 0 → left ≡ [] → ⊥) → whole_lines (piece ∷ left) ≡ piece ∷ whole_lines left
here_line piece [] more = full piece (eqb (length piece) 0) refl (λ empty. more empty refl)
here_line piece (next ∷ left) more = refl

-- ---- how many lines there are

one_at_most : (b : Bool) (piece : List ℕ) → length (cond b [] (piece ∷ [])) ≤ 1
one_at_most true piece = omega arith
one_at_most false piece = omega arith

whole_onto : (x : ℕ) (pieces : List (List ℕ)) → length (whole_lines (onto_first x pieces)) ≤ 1 + length (whole_lines pieces)
whole_onto x [] = omega (arith, one_at_most (eqb (length (x ∷ [])) 0) (x ∷ []))
whole_onto x (piece ∷ []) = omega (arith, one_at_most (eqb (length (x ∷ piece)) 0) (x ∷ piece))
whole_onto x (piece ∷ next ∷ more) = omega arith

whole_more : (pieces : List (List ℕ)) → length (whole_lines ([] ∷ pieces)) ≤ 1 + length (whole_lines pieces)
whole_more [] = omega arith
whole_more (piece ∷ more) = omega arith

whole_step : (p : Bool) (x : ℕ) (pieces : List (List ℕ)) (n : ℕ) → length (whole_lines pieces) ≤ n → length (whole_lines (cond p ([] ∷ pieces) (onto_first x pieces))) ≤ suc n
whole_step true x pieces n h = omega (arith, whole_more pieces)
whole_step false x pieces n h = omega (arith, whole_onto x pieces)

whole_few : (bytes : List ℕ) → length (whole_lines (parts_of 10 bytes)) ≤ length bytes
whole_few [] = omega arith
whole_few (b ∷ bytes) = whole_step (eqb b 10) b (parts_of 10 bytes) (length bytes) (whole_few bytes)

-- no more than bytes
pub length-lines_of : (bytes : List ℕ) → length (lines_of bytes) ≤ length bytes
unfolding lines_of
length-lines_of bytes = whole_few bytes

pub lines_of-is : (bytes : List ℕ) → lines_of bytes ≡ whole_lines (parts_of 10 bytes)
unfolding lines_of
lines_of-is bytes = refl
