-- Pairs of elements of two rows are the pixels of a place.
use Rattle.std.proofs.Common.{◌≡◌, ℕ, ◌+◌, ◌<◌, Bool, List, length, inl, inr, subst, sym, ap, ◌∙◌, arith, Some}
use Rattle.std.proofs.lemmas.Bool.{cases_lt}
use Rattle.std.proofs.lemmas.Option.{slice_get_past}
use Rattle.std.specs.List.{slice_get}
use Rattle.std.specs.Borrow.{Bor}
use Rattle.image_model.specs.Layout.{Layout, pixel}
use Rattle.image_model.specs.Rows.{row}
use Rattle.image_model.proofs.Rows.{row_pixel}
use Rattle.image_ops.specs.Pairs.{PairAnswers, PlaceAnswers}

-- an element of a row is the pixel of its place
pub row_element : {T : Type 0} (l : Layout T) (x y : ℕ) (xs : List T) (p : T) → x < l.width → xs ≡ row l y → slice_get xs x ≡ Some p → pixel l x y ≡ Some p
row_element l x y xs p column is there = sym (row_pixel l x y column) ∙ ap (λ r. slice_get r x) (sym is) ∙ there

-- a call at a pair of elements is one at that place
pub place_from_pair : {T U : Type 0} (post : Bor T → Bor U → Bool → Type 0) (k : Layout T) (l : Layout U) (x y : ℕ) (xs : List T) (ys : List U) (r : Bool) → x < k.width → x < l.width → xs ≡ row k y → ys ≡ row l y
    → PairAnswers post xs ys x r → PlaceAnswers post k l x y r
place_from_pair post k l x y xs ys r column column' is is' pair = record {
  first = pair.first;
  second = pair.second;
  first_is = row_element k x y xs pair.first.now column is pair.first_is;
  second_is = row_element l x y ys pair.second.now column' is' pair.second_is;
  answered = pair.answered;
}

-- what holds in the rows above and in this one holds in all of them
pub one_row_more : (P : ℕ → ℕ → Type 0) (width y : ℕ) → ((x j : ℕ) → x < width → j < y → P x j) → ((x : ℕ) → x < width → P x y) → (x j : ℕ) → x < width → j < y + 1 → P x j
one_row_more P width y above this x j column upto =
    elim (cases_lt j y) [
      | inl earlier ↦ above x j column earlier
      | inr last ↦ let same : y ≡ j = omega (arith, upto, last) in subst (λ n. P x n) same (this x column)
    ]

-- an item of a list has a number below its length
pub in_row : {T : Type 0} (xs : List T) (x : ℕ) (p : T) (n : ℕ) → slice_get xs x ≡ Some p → length xs ≡ n → x < n
in_row xs x p n here long =
    elim (cases_lt x (length xs)) [
      | inl inside ↦ omega (arith, inside, long)
      | inr past ↦ absurd (cc (sym (slice_get_past xs x past) ∙ here))
    ]
