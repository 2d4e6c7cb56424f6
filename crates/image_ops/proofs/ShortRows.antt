-- Two rows are equal where their first and their last cells are, which may overlap.
use Rattle.std.proofs.Common.{◌≡◌, ℕ, ◌+◌, ◌-◌, ◌*◌, ◌≤◌, ◌<◌, Bool, true, false, ◌&&◌, List, ◌++◌, length, take, drop, get_or, refl, sym, ◌∙◌, ap, arith, length-take, length-drop}
use Rattle.std.specs.Cmp.Lexicographic.{pointwise}
use Rattle.std.proofs.lemmas.List.{same_lists, places, take_more}
use Rattle.image_ops.proofs.FirstRows.{pointwise_joins, pointwise_more, and_false}

-- what is in both parts counts once
and_overlap : (p q r : Bool) → ((p && q) && (q && r)) ≡ (p && (q && r))
and_overlap true true r = refl
and_overlap true false r = refl
and_overlap false q r = refl

module _ {T : Type 0} (xs : List T) (m n : ℕ) (order : m ≤ n) (within : n ≤ length xs) where
  pub front_parts : take n xs ≡ take m xs ++ take (n - m) (drop m xs)
  front_parts = same_lists _ _ (grind (arith, places)) (λ k d below. grind (arith, places))

  back_parts : take (length xs - m) (drop m xs) ≡ take (n - m) (drop m xs) ++ drop n xs
  back_parts = same_lists _ _ (grind (arith, places)) (λ k d below. grind (arith, places))

  all_parts : xs ≡ take m xs ++ (take (n - m) (drop m xs) ++ drop n xs)
  all_parts = same_lists _ _ (grind (arith, places)) (λ k d below. grind (arith, places))

module _ {T : Type 0} (E : T → T → Bool) (xs ys : List T) where
  -- two parts that meet or overlap are all
  pub parts_equal : (m n : ℕ) → length xs ≡ length ys → m ≤ n → n ≤ length xs
      → (pointwise E (take n xs) (take n ys) && pointwise E (take (length xs - m) (drop m xs)) (take (length ys - m) (drop m ys))) ≡ pointwise E xs ys
  parts_equal m n same order within =
      let beside : n ≤ length ys = omega arith in
      let p : length (take m xs) ≡ length (take m ys) = omega (arith, length-take m xs, length-take m ys) in
      let q : length (take (n - m) (drop m xs)) ≡ length (take (n - m) (drop m ys)) = omega (arith, length-take (n - m) (drop m xs), length-take (n - m) (drop m ys), length-drop m xs, length-drop m ys) in
      let first : pointwise E (take n xs) (take n ys) ≡ (pointwise E (take m xs) (take m ys) && pointwise E (take (n - m) (drop m xs)) (take (n - m) (drop m ys))) =
      (λ i. pointwise E (front_parts xs m n order within i) (front_parts ys m n order beside i)) ∙ pointwise_joins E (take m xs) (take m ys) (take (n - m) (drop m xs)) (take (n - m) (drop m ys)) p in
      let last : pointwise E (take (length xs - m) (drop m xs)) (take (length ys - m) (drop m ys)) ≡ (pointwise E (take (n - m) (drop m xs)) (take (n - m) (drop m ys)) && pointwise E (drop n xs) (drop n ys)) =
      (λ i. pointwise E (back_parts xs m n order within i) (back_parts ys m n order beside i)) ∙ pointwise_joins E (take (n - m) (drop m xs)) (take (n - m) (drop m ys)) (drop n xs) (drop n ys) q in
      let whole : pointwise E xs ys ≡ (pointwise E (take m xs) (take m ys) && (pointwise E (take (n - m) (drop m xs)) (take (n - m) (drop m ys)) && pointwise E (drop n xs) (drop n ys))) =
      (λ i. pointwise E (all_parts xs m n order within i) (all_parts ys m n order beside i))
      ∙ pointwise_joins E (take m xs) (take m ys) (take (n - m) (drop m xs) ++ drop n xs) (take (n - m) (drop m ys) ++ drop n ys) p
      ∙ ap (λ t. pointwise E (take m xs) (take m ys) && t) (pointwise_joins E (take (n - m) (drop m xs)) (take (n - m) (drop m ys)) (drop n xs) (drop n ys) q) in
      (λ i. first i && last i)
      ∙ and_overlap (pointwise E (take m xs) (take m ys)) (pointwise E (take (n - m) (drop m xs)) (take (n - m) (drop m ys))) (pointwise E (drop n xs) (drop n ys))
      ∙ sym whole

  -- the first and the last n are all of at most 2 * n
  pub ends_equal : (n : ℕ) → length xs ≡ length ys → n ≤ length xs → length xs ≤ 2 * n
      → (pointwise E (take n xs) (take n ys) && pointwise E (take (length xs - (length xs - n)) (drop (length xs - n) xs)) (take (length ys - (length xs - n)) (drop (length xs - n) ys))) ≡ pointwise E xs ys
  ends_equal n same enough few = parts_equal (length xs - n) n same (omega arith) enough

  -- one block more is compared
  pub block_equal : (n k : ℕ) → length xs ≡ length ys → n + k ≤ length xs
      → pointwise E (take (n + k) xs) (take (n + k) ys) ≡ (pointwise E (take n xs) (take n ys) && pointwise E (take (n + k - n) (drop n xs)) (take (n + k - n) (drop n ys)))
  block_equal n k same within =
      let order : n ≤ n + k = omega arith in
      let beside : n + k ≤ length ys = omega arith in
      let as_long : length (take n xs) ≡ length (take n ys) = omega (arith, length-take n xs, length-take n ys) in
      (λ i. pointwise E (front_parts xs n (n + k) order within i) (front_parts ys n (n + k) order beside i))
      ∙ pointwise_joins E (take n xs) (take n ys) (take (n + k - n) (drop n xs)) (take (n + k - n) (drop n ys)) as_long

  -- a block that differs tells them apart
  pub block_differs : (n k : ℕ) → length xs ≡ length ys → n + k ≤ length xs → pointwise E (take (n + k - n) (drop n xs)) (take (n + k - n) (drop n ys)) ≡ false → pointwise E xs ys ≡ false
  block_differs n k same within differs =
      let first : pointwise E (take (n + k) xs) (take (n + k) ys) ≡ false = block_equal n k same within ∙ (λ i. pointwise E (take n xs) (take n ys) && differs i) ∙ and_false (pointwise E (take n xs) (take n ys)) in
      sym (parts_equal (n + k) (n + k) same (omega arith) within) ∙ (λ i. first i && pointwise E (take (length xs - (n + k)) (drop (n + k) xs)) (take (length ys - (n + k)) (drop (n + k) ys)))

  -- one cell more is compared
  pub cell_equal : (k : ℕ) (d e : T) → k < length xs → k < length ys → pointwise E (take (k + 1) xs) (take (k + 1) ys) ≡ (pointwise E (take k xs) (take k ys) && E (get_or xs k d) (get_or ys k e))
  cell_equal k d e below beside =
      let as_long : length (take k xs) ≡ length (take k ys) = omega (arith, length-take k xs, length-take k ys) in
      (λ i. pointwise E (take_more xs k d below i) (take_more ys k e beside i)) ∙ pointwise_more E (take k xs) (take k ys) (get_or xs k d) (get_or ys k e) as_long
