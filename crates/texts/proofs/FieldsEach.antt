-- Parts that are read one after the other.
use Rattle.std.proofs.Common.{◌≡◌, ◌<◌, ℕ, length, List, [], ◌∷◌, ◌++◌, Option, Some, None, refl, sym, ap, ◌∙◌, append_assoc, arith}
use Rattle.std.specs.Option.{option_map}
use Rattle.std.proofs.lemmas.List.{append-nil}
use Rattle.texts.specs.Reading.{each_of, first_of_parts, with_front, ◌>>=◌}

pub with_nothing : {A : Type 0} (o : Option (List A)) → with_front [] o ≡ o
with_nothing None = refl
with_nothing (Some xs) = refl

grown : {A : Type 0} (front : List A) (x : A) (rest : Option (List A)) → with_front front (rest >>= λ xs. Some (x ∷ xs)) ≡ with_front (front ++ x ∷ []) rest
grown front x None = refl
grown front x (Some xs) = ap (λ ys. Some ys) (sym (append_assoc front (x ∷ []) xs))

-- what was read is the first part's value, and what is left are the parts after it
found : {A : Type 0} (o : Option A) (parts rest : List (List ℕ)) (x : A) → option_map {U = A × List (List ℕ)} (λ v. (v, parts)) o ≡ Some (x, rest) → (o ≡ Some x) × (parts ≡ rest)
found None parts rest x e = absurd cc
found {A} (Some y) parts rest x e =
    let both : Path (A × List (List ℕ)) (y, parts) (x, rest) = cc in
    (ap (λ pair. Some pair.0) both, ap (λ pair. pair.1) both)

not_found : {A : Type 0} (o : Option A) (parts : List (List ℕ)) → option_map {U = A × List (List ℕ)} (λ v. (v, parts)) o ≡ None → o ≡ None
not_found None parts e = refl
not_found (Some y) parts e = absurd cc

pub each_of-more : {A : Type 0} (read : List ℕ → Option A) (front : List A) (left rest : List (List ℕ)) (x : A) (total : Option (List A))
    → first_of_parts read left ≡ Some (x, rest) → with_front front (each_of read left) ≡ total → with_front (front ++ x ∷ []) (each_of read rest) ≡ total
unfolding each_of first_of_parts
each_of-more read front [] rest x total e so_far = absurd cc
each_of-more read front (part ∷ parts) rest x total e so_far =
    let is = found (read part) parts rest x e in
    let one : with_front front (each_of read (part ∷ parts)) ≡ with_front (front ++ x ∷ []) (each_of read rest) = rw (is.0, is.1) (grown front x (each_of read rest)) in
    sym one ∙ so_far

pub each_of-stops : {A : Type 0} (read : List ℕ → Option A) (front : List A) (left : List (List ℕ)) (total : Option (List A))
    → (left ≡ [] → ⊥) → first_of_parts read left ≡ None → with_front front (each_of read left) ≡ total → total ≡ None
unfolding each_of first_of_parts
each_of-stops read front [] total some e so_far = absurd (some refl)
each_of-stops read front (part ∷ parts) total some e so_far =
    let one : with_front front (each_of read (part ∷ parts)) ≡ None = rw (not_found (read part) parts e) refl in
    sym so_far ∙ one

pub first_of_parts-smaller : {A : Type 0} (read : List ℕ → Option A) (left rest : List (List ℕ)) (x : A) → first_of_parts read left ≡ Some (x, rest) → length rest < length left
unfolding first_of_parts
first_of_parts-smaller read [] rest x e = absurd cc
first_of_parts-smaller read (part ∷ parts) rest x e = rw (found (read part) parts rest x e).1 (omega arith)

pub each_of-done : {A : Type 0} (read : List ℕ → Option A) (front : List A) (left : List (List ℕ)) (total : Option (List A))
    → left ≡ [] → with_front front (each_of read left) ≡ total → total ≡ Some front
unfolding each_of
each_of-done read front left total cut so_far =
    let one : with_front front (each_of read left) ≡ Some front = rw cut (ap (λ xs. Some xs) (append-nil front)) in
    sym so_far ∙ one
