-- Pieces without a byte, joined by it and cut at it again.
use Rattle.std.proofs.Common.{◌≡◌, ◌≢◌, ℕ, ◌+◌, ◌^◌, ◌<◌, ◌%◌, Bool, true, false, not, ◌&&◌, eqb, List, [], ◌∷◌, ◌++◌, refl, inl, inr, arith}
use Rattle.std.specs.List.{join_with_byte, AllByRecursion}
use Rattle.std.specs.Fmt.{decimal}
use Rattle.std.proofs.lemmas.Fmt.{decimal_by_steps}
use Rattle.std.proofs.lemmas.Bool.Decides.{eqb_tells}
use Rattle.texts.specs.Parts.{parts_of}

abbrev pub lacks : ℕ → List ℕ → Bool
lacks c [] = true
lacks c (x ∷ xs) = not (eqb x c) && lacks c xs

abbrev pub AllLack : ℕ → List (List ℕ) → Type 0
AllLack c pieces = AllByRecursion (λ piece. lacks c piece ≡ true) pieces

pub and_parts : (a b : Bool) → (a && b) ≡ true → (a ≡ true) × (b ≡ true)
and_parts true b e = (refl, e)
and_parts false b e = absurd cc

not_parts : (b : Bool) → not b ≡ true → b ≡ false
not_parts true e = absurd cc
not_parts false e = refl

same_eqb : (c : ℕ) → eqb c c ≡ true
same_eqb c = elim (eqb_tells c c) [ inl t ↦ t.0 | inr t ↦ absurd (t.1 refl) ]

other_eqb : (a b : ℕ) → a ≢ b → eqb a b ≡ false
other_eqb a b h = elim (eqb_tells a b) [ inl t ↦ absurd (h t.1) | inr t ↦ t.0 ]

pub lacks-append : (c : ℕ) (xs ys : List ℕ) → lacks c xs ≡ true → lacks c ys ≡ true → lacks c (xs ++ ys) ≡ true
lacks-append c [] ys p q = q
lacks-append c (x ∷ xs) ys p q =
    let a = and_parts (not (eqb x c)) (lacks c xs) p in
    rw (a.0, lacks-append c xs ys a.1 q) refl

parts_of-at : (c : ℕ) (xs ys : List ℕ) → lacks c xs ≡ true → parts_of c (xs ++ c ∷ ys) ≡ xs ∷ parts_of c ys
parts_of-at c [] ys p = rw (same_eqb c) refl
parts_of-at c (x ∷ xs) ys p =
    let a = and_parts (not (eqb x c)) (lacks c xs) p in
    rw (not_parts (eqb x c) a.0, parts_of-at c xs ys a.1) refl

parts_of-one : (c : ℕ) (xs : List ℕ) → lacks c xs ≡ true → parts_of c xs ≡ xs ∷ []
parts_of-one c [] p = refl
parts_of-one c (x ∷ xs) p =
    let a = and_parts (not (eqb x c)) (lacks c xs) p in
    rw (not_parts (eqb x c) a.0, parts_of-one c xs a.1) refl

-- pieces that are joined are cut again at the same places
pub parts_of-join : (c : ℕ) (piece : List ℕ) (pieces : List (List ℕ)) → AllLack c (piece ∷ pieces) → parts_of c (join_with_byte c (piece ∷ pieces)) ≡ piece ∷ pieces
parts_of-join c piece [] h = parts_of-one c piece h.0
parts_of-join c piece (next ∷ more) h = grind (arith, parts_of-at, parts_of-join c next more h.1)

pub lacks-join : (c separator : ℕ) (pieces : List (List ℕ)) → separator ≢ c → AllLack c pieces → lacks c (join_with_byte separator pieces) ≡ true
lacks-join c separator (piece ∷ next ∷ more) ne h = grind (arith, other_eqb, lacks-append, lacks-join c separator (next ∷ more) ne h.1)
lacks-join c separator _ ne h = grind arith

lacks-digit : (c k : ℕ) → c < 48 → lacks c ((48 + k) ∷ []) ≡ true
lacks-digit c k small = rw (other_eqb (48 + k) c (λ e. omega (arith, e, small))) refl

pub lacks-decimal : (c n : ℕ) → c < 48 → n < 2 ^ 64 → lacks c (decimal n) ≡ true
lacks-decimal c n small lt =
    decimal_by_steps (λ _ ds. lacks c ds ≡ true) (λ k _. lacks-digit c k small) (λ k ds _ before. lacks-append c ds ((48 + k % 10) ∷ []) before (lacks-digit c (k % 10) small)) n lt
