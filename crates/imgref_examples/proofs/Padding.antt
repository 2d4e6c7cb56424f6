-- Padding has no mark.
use Rattle.std.proofs.Common.{◌≡◌, ◌≢◌, ℕ, zero, suc, ◌+◌, ◌-◌, ◌*◌, ◌<◌, ◌≤◌, Bool, true, false, List, ◌++◌, replicate, Some, refl, sym, ap, ap₂, ◌∙◌, arith, inl, inr}
use Rattle.std.specs.List.{slice_get}
use Rattle.std.proofs.lemmas.List.{length-replicate}
use Rattle.std.proofs.lemmas.Bool.{cases_lt, true≢false}
use Rattle.std.proofs.lemmas.Option.{same_Some, none-some}
use Rattle.image_model.specs.Layout.{IsPadding}
use Rattle.image_model.proofs.Cells.{slice_get-append_right}
use Rattle.image_pixels.proofs.Layouts.{some_first, some_after}
use Rattle.image_pixels.specs.Marks.{marks, marks_of, rows_from}

repeated : (b : Bool) (n : ℕ) (ms : List Bool) (k : ℕ) → k < n → slice_get (replicate n b ++ ms) k ≡ Some b
repeated b zero ms k below = absurd (omega (arith, below))
repeated b (suc n) ms zero below = refl
repeated b (suc n) ms (suc k) below = repeated b n ms k (omega (arith, below))

beyond : (b : Bool) (n : ℕ) (ms : List Bool) (k : ℕ) → slice_get (replicate n b ++ ms) (n + k) ≡ slice_get ms k
beyond b n ms k = slice_get-append_right (replicate n b) ms n k (length-replicate n b)

-- each mark of the further rows is that of column x of row y of them
row_of_mark : (n w pad k : ℕ) → slice_get (rows_from n w pad) k ≡ Some true → (x : ℕ) × (y : ℕ) × (x < w) × (y < n) × (k ≡ pad + (y * (pad + w) + x))
row_of_mark zero w pad k marked = absurd (none-some true marked)
row_of_mark (suc n) w pad k marked =
    elim (cases_lt k pad) [
      | inl before ↦ absurd (true≢false (same_Some true false (sym marked ∙ repeated false pad (replicate w true ++ rows_from n w pad) k before)))
      | inr after ↦
          let at : pad + (k - pad) ≡ k = omega arith in
          let mark = sym (beyond false pad (replicate w true ++ rows_from n w pad) (k - pad)) ∙ ap (λ j. slice_get (rows_from (suc n) w pad) j) at ∙ marked in
          elim (cases_lt (k - pad) w) [
            | inl here ↦ let first : k ≡ pad + (0 * (pad + w) + (k - pad)) = omega arith in (k - pad, 0, here, omega arith, first)
            | inr later ↦
                let on : w + (k - pad - w) ≡ k - pad = omega arith in
                let found = row_of_mark n w pad (k - pad - w) (sym (beyond true w (rows_from n w pad) (k - pad - w)) ∙ ap (λ j. slice_get (replicate w true ++ rows_from n w pad) j) on ∙ mark) in
                (found.0, suc found.1, found.2, omega (arith, found.3), omega (arith, found.4, after, later))
          ]
    ]

pub padding_unmarked : (w h s k : ℕ) → w ≤ s → IsPadding w h s k → slice_get (marks_of w h s) k ≢ Some true
padding_unmarked zero zero s k wide padding marked = none-some true marked
padding_unmarked zero (suc h) s k wide padding marked = none-some true (ap (λ n. slice_get (marks n 0 0 (s - 0)) k) (sym (some_first zero h)) ∙ marked)
padding_unmarked (suc w) zero s k wide padding marked = none-some true (ap (λ n. slice_get (marks 0 n (suc w) (s - suc w)) k) (sym (some_after w zero)) ∙ marked)
padding_unmarked (suc w) (suc h) s k wide padding marked =
    let least : suc h - 1 ≡ h = omega arith in
    let mark = ap₂ (λ n m. slice_get (marks n m (suc w) (s - suc w)) k) (sym (some_first (suc w) h)) (sym (some_after w (suc h) ∙ least)) ∙ marked in
    elim (cases_lt k (suc w)) [
      | inl here ↦ padding.no_place k 0 here (omega arith) (omega arith)
      | inr later ↦
          let on : suc w + (k - suc w) ≡ k = omega arith in
          let found = row_of_mark h (suc w) (s - suc w) (k - suc w) (sym (beyond true (suc w) (rows_from h (suc w) (s - suc w)) (k - suc w)) ∙ ap (λ j. slice_get (marks (suc w) h (suc w) (s - suc w)) j) on ∙ mark) in
          let back : s - suc w + suc w ≡ s = omega arith in
          let at : k - suc w ≡ s - suc w + (found.1 * s + found.0) = found.4 ∙ ap (λ t. s - suc w + (found.1 * t + found.0)) back in
          padding.no_place found.0 (suc found.1) found.2 (omega (arith, found.3)) (omega (arith, at, later))
    ]
