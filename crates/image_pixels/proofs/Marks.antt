-- What a step does to the marks and the cells.
use Rattle.std.proofs.Common.{◌≡◌, ℕ, zero, suc, ◌+◌, ◌-◌, ◌*◌, ◌≤◌, ◌<◌, refl, sym, ap, ◌∙◌, true, false, List, [], ◌∷◌, ◌++◌, length, take, drop, replicate, arith, ap₂, suc-mul, add_comm, zero-mul}
use Rattle.std.proofs.Math.ListN.{take-append-drop, length-drop}
use borrow.Table.Elements.{length-take-le, length_app}
use Rattle.image_pixels.specs.Marks.{pick, marks, rows_from, skipped}

-- the marks before a step
pub marks_in_row : (remaining rows width pad : ℕ) → 0 < remaining → marks remaining rows width pad ≡ replicate 0 false ++ true ∷ marks (remaining - 1) rows width pad
marks_in_row zero rows width pad h = absurd (omega (arith, h))
marks_in_row (suc k) rows width pad h = let e : k ≡ suc k - 1 = omega arith in ap (λ n. true ∷ marks n rows width pad) e

pub marks_new_row : (rows width pad : ℕ) → 0 < rows → 0 < width → marks 0 rows width pad ≡ replicate pad false ++ true ∷ marks (width - 1) (rows - 1) width pad
marks_new_row zero width pad h p = absurd (omega (arith, h))
marks_new_row (suc r) zero pad h p = absurd (omega (arith, p))
marks_new_row (suc r) (suc w) pad h p = let e : w ≡ suc w - 1 = omega arith in let e' : r ≡ suc r - 1 = omega arith in
    ap₂ (λ n m. replicate pad false ++ true ∷ (replicate n true ++ rows_from m (suc w) pad)) e e'

module _ {X : Type 0} where
  pub pick_none : (ms : List _) → let none : List X = [] in pick ms none ≡ none
  pick_none [] = refl
  pick_none (m ∷ ms) = refl

  pub pick_past : (k : ℕ) (m : List _) (front : List X) (y : X) (back : List X) → length front ≡ k → pick (replicate k false ++ true ∷ m) (front ++ y ∷ back) ≡ y ∷ pick m back
  pick_past zero m [] y back e = refl
  pick_past zero m (x ∷ xs) y back e = absurd (omega (arith, e))
  pick_past (suc k) m [] y back e = absurd (omega (arith, e))
  pick_past (suc k) m (x ∷ xs) y back e = pick_past k m xs y back (omega (arith, e))

  pub parted : (xs : List X) → 0 < length xs → (y : X) × (ys : List X) × (xs ≡ y ∷ ys)
  parted [] p = absurd (omega (arith, p))
  parted (y ∷ ys) p = (y, ys, refl)

  pub parts : (k : ℕ) (xs : List X) → k < length xs → (y : X) × (ys : List X) × (xs ≡ take k xs ++ y ∷ ys) × (length (take k xs) ≡ k) × (length xs ≡ k + suc (length ys))
  parts k xs h =
      let d : length (drop k xs) ≡ length xs - k = length-drop k xs in let p = parted (drop k xs) (omega (arith, h, d)) in
      let e : xs ≡ take k xs ++ p.0 ∷ p.1 = sym (take-append-drop k xs) ∙ ap (λ zs. take k xs ++ zs) p.2 in
      let l : length (take k xs) ≡ k = length-take-le k xs (omega (arith, h)) in
      (p.0, p.1, e, l, ap length e ∙ length_app (take k xs) (p.0 ∷ p.1) ∙ ap (λ n. n + suc (length p.1)) l)

pub skipped_in_row : (remaining pad : ℕ) → 0 < remaining → skipped remaining pad ≡ 0
skipped_in_row zero pad h = absurd (omega (arith, h))
skipped_in_row (suc k) pad h = refl

pub times_one_less : (n m : ℕ) → 1 ≤ n → n * m ≡ m + (n - 1) * m
times_one_less zero m h = absurd (omega (arith, h))
times_one_less (suc n) m h = let e : n ≡ suc n - 1 = omega arith in suc-mul n m ∙ add_comm (n * m) m ∙ ap (λ k. m + k * m) e

module _ {X : Type 0} where
  -- how many cells are pixels
  all_true : (n : ℕ) (ms : List _) (xs : List X) → n ≤ length xs → length (pick (replicate n true ++ ms) xs) ≡ n + length (pick ms (drop n xs))
  all_true zero ms xs h = sym (omega arith)
  all_true (suc n) ms [] h = absurd (omega (arith, h))
  all_true (suc n) ms (x ∷ xs) h = let r = all_true n ms xs (omega (arith, h)) in omega (arith, r)

  pub all_false : (n : ℕ) (ms : List _) (xs : List X) → n ≤ length xs → pick (replicate n false ++ ms) xs ≡ pick ms (drop n xs)
  all_false zero ms xs h = refl
  all_false (suc n) ms [] h = absurd (omega (arith, h))
  all_false (suc n) ms (x ∷ xs) h = all_false n ms xs (omega (arith, h))

  in_rows : (rows width pad : ℕ) (xs : List X) → rows * (pad + width) ≤ length xs → length (pick (rows_from rows width pad) xs) ≡ rows * width
  in_rows zero width pad xs h = sym (zero-mul width)
  in_rows (suc n) width pad xs h =
      let long : n * (pad + width) + (pad + width) ≤ length xs = omega (arith, h, suc-mul n (pad + width)) in
      let ys : List X = drop pad xs in let ly : length ys ≡ length xs - pad = length-drop pad xs in
      let zs : List X = drop width ys in let lz : length zs ≡ length ys - width = length-drop width ys in
      let r = in_rows n width pad zs (omega (arith, long, ly, lz)) in
      ap length (all_false pad (replicate width true ++ rows_from n width pad) xs (omega (arith, long))) ∙ all_true width (rows_from n width pad) ys (omega (arith, long, ly))
      ∙ ap (λ k. width + k) r ∙ add_comm width (n * width) ∙ sym (suc-mul n width)

  -- the number of pixels left is the exact count
  pub length-pixels : (remaining rows width pad : ℕ) (xs : List X) → remaining + rows * (pad + width) ≤ length xs → length (pick (marks remaining rows width pad) xs) ≡ remaining + rows * width
  length-pixels remaining rows width pad xs h = let l : length (drop remaining xs) ≡ length xs - remaining = length-drop remaining xs in
      all_true remaining (rows_from rows width pad) xs (omega (arith, h)) ∙ ap (λ k. remaining + k) (in_rows rows width pad (drop remaining xs) (omega (arith, h, l)))

module _ {X : Type 0} where
  -- past the padding before a further row its marks come
  pub pick_entered : (rows width pad : ℕ) (xs : List X) → 0 < rows → rows * (pad + width) ≤ length xs → pick (marks width (rows - 1) width pad) (drop pad xs) ≡ pick (marks 0 rows width pad) xs
  pick_entered zero width pad xs some reaches = absurd (omega (arith, some))
  pick_entered (suc n) width pad xs some reaches =
      let least : suc n - 1 ≡ n = omega arith in
      let long : n * (pad + width) + (pad + width) ≤ length xs = omega (arith, reaches, suc-mul n (pad + width)) in
      ap (λ k. pick (marks width k width pad) (drop pad xs)) least ∙ sym (all_false pad (replicate width true ++ rows_from n width pad) xs (omega (arith, long)))

  -- where the next cells are marked, they come first
  pub pick_taken : (k remaining rows width pad : ℕ) (xs : List X) → k ≤ remaining → pick (marks remaining rows width pad) xs ≡ take k xs ++ pick (marks (remaining - k) rows width pad) (drop k xs)
  pick_taken zero remaining rows width pad xs within = let all : remaining ≡ remaining - 0 = omega arith in ap (λ n. pick (marks n rows width pad) xs) all
  pick_taken (suc k) zero rows width pad xs within = absurd (omega (arith, within))
  pick_taken (suc k) (suc remaining) rows width pad [] within = sym (pick_none (marks (suc remaining - suc k) rows width pad))
  pick_taken (suc k) (suc remaining) rows width pad (x ∷ xs) within =
      let same : remaining - k ≡ suc remaining - suc k = omega arith in
      ap (λ ys. x ∷ ys) (pick_taken k remaining rows width pad xs (omega (arith, within)) ∙ ap (λ n. take k xs ++ pick (marks n rows width pad) (drop k xs)) same)
