-- Fields: what one is read as has that text, and what has a text is read from it.
use Rattle.std.proofs.Common.{◌≡◌, ◌≢◌, ℕ, ◌<◌, true, List, [], ◌∷◌, map, Option, Some, refl, sym, ap, subst, ◌∙◌, arith, rules}
use Rattle.std.specs.List.{join_with_byte, AllByRecursion}
use Rattle.std.specs.Fmt.{decimal}
use Rattle.std.proofs.lemmas.Bool.{leb-true, le-leb}
use Rattle.std.proofs.lemmas.List.Splits.{join_with_byte-slice_split}
use Rattle.image_shape.specs.declared.window.Window.{Window}
use Rattle.texts.specs.Fields.{window_text, IsWord, IsPixel, IsWindow}
use Rattle.texts.specs.Parts.{parts_of}
use Rattle.texts.specs.Reading.{◌>>=◌, number_of, first_of_parts, window_in, window_of, each_of, pixel_of}
use Rattle.texts.proofs.FieldNumbers.{number_of-is, number_of-decimal}
use Rattle.texts.proofs.PartsJoined.{lacks, AllLack, parts_of-join, lacks-join, lacks-decimal}
use Rattle.texts.proofs.Options.{some_is, bind_some, map_some, guard_some, nil_is}

-- a field is read as a value exactly where it is the text of that value
pub record ReadsText {A : Type 0} (read : List ℕ → Option A) (text : A → List ℕ) (Is : A → Type 0) : Type 0 where
  pub is : (field : List ℕ) (x : A) → read field ≡ Some x → (field ≡ text x) × Is x
  pub back : (x : A) → Is x → read (text x) ≡ Some x

-- ---- the first of the fields

-- the first field is the text of a value, and the others are left
abbrev pub IsFirst : {A : Type 0} → (A → List ℕ) → (A → Type 0) → List (List ℕ) → A × List (List ℕ) → Type 0
IsFirst text Is fields x = (fields ≡ text x.0 ∷ x.1) × Is x.0

pub first_is : {A : Type 0} (read : List ℕ → Option A) (text : A → List ℕ) (Is : A → Type 0) → ReadsText read text Is
    → (fields : List (List ℕ)) (x : A × List (List ℕ)) → first_of_parts read fields ≡ Some x → IsFirst text Is fields x
unfolding first_of_parts
first_is read text Is law [] x e = absurd cc
first_is read text Is law (field ∷ fields) x e =
    let m = map_some (read field) (λ v. (v, fields)) x e in
    let one = law.is field m.0 m.1 in
    subst (IsFirst text Is (field ∷ fields)) m.2 (ap (λ (p : List ℕ). p ∷ fields) one.0, one.1)

pub first_back : {A : Type 0} (read : List ℕ → Option A) (text : A → List ℕ) (Is : A → Type 0) → ReadsText read text Is
    → (x : A) (rest : List (List ℕ)) → Is x → first_of_parts read (text x ∷ rest) ≡ Some (x, rest)
unfolding first_of_parts
first_back read text Is law x rest is = rw (law.back x is) refl

-- the fields after the first are known too
pub then : (fields : List (List ℕ)) (first : List ℕ) (rest known : List (List ℕ)) → fields ≡ first ∷ rest → rest ≡ known → fields ≡ first ∷ known
then fields first rest known e more = e ∙ ap (λ (l : List (List ℕ)). first ∷ l) more

-- ---- each of the fields

pub each_is : {A : Type 0} (read : List ℕ → Option A) (text : A → List ℕ) (Is : A → Type 0) → ReadsText read text Is
    → (fields : List (List ℕ)) (xs : List A) → each_of read fields ≡ Some xs → (fields ≡ map text xs) × AllByRecursion Is xs
unfolding each_of
each_is {A} read text Is law [] xs e = grind (arith, some_is)
each_is {A} read text Is law (field ∷ fields) xs e =
    let P : List A → Type 0 = λ ys. ((field ∷ fields) ≡ map text ys) × AllByRecursion Is ys in
    let a = bind_some (read field) (λ value. each_of read fields >>= λ values. Some (value ∷ values)) xs e in
    let b = bind_some (each_of read fields) (λ values. Some (a.0 ∷ values)) xs a.2 in
    let first = law.is field a.0 a.1 in
    let others = each_is read text Is law fields b.0 b.1 in
    subst P (some_is (a.0 ∷ b.0) xs b.2) (ap (λ (p : List ℕ). p ∷ fields) first.0 ∙ ap (λ (l : List (List ℕ)). text a.0 ∷ l) others.0, (first.1, others.1))

pub each_back : {A : Type 0} (read : List ℕ → Option A) (text : A → List ℕ) (Is : A → Type 0) → ReadsText read text Is
    → (xs : List A) → AllByRecursion Is xs → each_of read (map text xs) ≡ Some xs
unfolding each_of
each_back read text Is law [] all = refl
each_back read text Is law (x ∷ xs) all = rw (law.back x all.0, each_back read text Is law xs all.1) refl

-- ---- numbers and pixels

pub number_law : ReadsText number_of decimal IsWord
number_law = record { is = number_of-is; back = number_of-decimal }

pixel_is : (field : List ℕ) (p : ℕ) → pixel_of field ≡ Some p → (field ≡ decimal p) × IsPixel p
unfolding pixel_of
pixel_is field p e = grind (arith, leb-true, number_of-is, bind_some, guard_some)

pixel_back : (p : ℕ) → IsPixel p → pixel_of (decimal p) ≡ Some p
unfolding pixel_of
pixel_back p lt = grind (arith, le-leb, number_of-decimal)

pub pixel_law : ReadsText pixel_of decimal IsPixel
pixel_law = record { is = pixel_is; back = pixel_back }

-- ---- windows

abbrev window_parts : Window → List (List ℕ)
window_parts w = decimal w.left ∷ decimal w.top ∷ decimal w.width ∷ decimal w.height ∷ []

abbrev made_window : ℕ → ℕ → ℕ → ℕ → Window
made_window left top width height = record { left = left; top = top; width = width; height = height }

window_in-is : (parts : List (List ℕ)) (w : Window) → window_in parts ≡ Some w → (parts ≡ window_parts w) × IsWindow w
unfolding window_in
window_in-is parts w e = grind (arith, bind_some, guard_some, nil_is, first_is, number_law)

window_in-back : (w : Window) → IsWindow w → window_in (window_parts w) ≡ Some w
unfolding window_in
window_in-back w is =
    let number = first_back number_of decimal IsWord number_law in
    rw (
      number w.left (decimal w.top ∷ decimal w.width ∷ decimal w.height ∷ []) is.left,
      number w.top (decimal w.width ∷ decimal w.height ∷ []) is.top,
      number w.width (decimal w.height ∷ []) is.width,
      number w.height [] is.height,
    ) refl

lacks-window_parts : (c : ℕ) (w : Window) → c < 48 → IsWindow w → AllLack c (window_parts w)
lacks-window_parts c w small is = grind (arith, lacks-decimal, is)

-- bytes whose parts are known are those parts joined
pub join_is : (c : ℕ) (bytes : List ℕ) (pieces : List (List ℕ)) → parts_of c bytes ≡ pieces → bytes ≡ join_with_byte c pieces
join_is c bytes pieces e = sym (join_with_byte-slice_split c bytes) ∙ ap (join_with_byte c) e

window_is : (part : List ℕ) (w : Window) → window_of part ≡ Some w → (part ≡ window_text w) × IsWindow w
unfolding window_text
window_is part w e = let a = window_in-is (parts_of 44 part) w e in (join_is 44 part (window_parts w) a.0, a.1)

window_back : (w : Window) → IsWindow w → window_of (window_text w) ≡ Some w
unfolding window_text
window_back w is = search (rules, parts_of-join, is, window_in-back, lacks-window_parts)

pub window_law : ReadsText window_of window_text IsWindow
window_law = record { is = window_is; back = window_back }

pub lacks-window_text : (c : ℕ) (w : Window) → c < 48 → 44 ≢ c → IsWindow w → lacks c (window_text w) ≡ true
unfolding window_text
lacks-window_text c w small ne is = lacks-join c 44 (window_parts w) ne (lacks-window_parts c w small is)
