-- One value in the first marked cells: what a step of a cursor leaves to do, and what the image shows then.
use Rattle.std.proofs.Common.{◌≡◌, ◌≢◌, ℕ, zero, suc, ◌+◌, ◌*◌, ◌<◌, ◌≤◌, Bool, true, false, List, [], ◌∷◌, ◌++◌, length, replicate, Some, refl, sym, ap, ◌∙◌, arith, inl, inr, nat_lt, if◌then◌else◌}
use Rattle.std.proofs.Math.Nat.{mul-le-mul_right, mul_comm}
use Rattle.std.specs.List.{slice_get}
use Rattle.std.proofs.lemmas.Bool.{cases_lt, cond-true, cond-false, lt-ltb, le-ltb}
use Rattle.image_model.specs.Layout.{Layout, Fits, SameOutside, pixel}
use Rattle.image_model.specs.Grid.{grid_of}
use Rattle.image_model.specs.Rows.{pixels}
use Rattle.image_model.specs.Windows.{Stretch, with_stretch}
use Rattle.image_model.proofs.Grids.{same_grids, pixel_at}
use Rattle.image_model.proofs.Pixels.{joined_pixel}
use Rattle.image_model.proofs.Places.{outside_fits}
use Rattle.image_model.proofs.Rows.{length-joined_rows}
use Rattle.image_pixels.specs.Marks.{pick, marks_of}
use Rattle.image_pixels.proofs.Layouts.{marked_pixels}
use Rattle.imgref.specs.declared.img.Img.{Img}
use Rattle.imgref.specs.Image.{buf_of, width_of, stride_of, with_all, grid_by, layout_by}
use Rattle.imgref_examples.specs.Pixels.{first_covered, with_first}
use Rattle.imgref_examples.proofs.Padding.{padding_unmarked}
use Rattle.imgref_examples.proofs.Replaced.{shows}

module _ {X : Type 0} (v : X) where
  pub covered_past : (n k : ℕ) (ms : List Bool) (front : List X) (y : X) (back : List X) → length front ≡ k → first_covered (suc n) (replicate k false ++ true ∷ ms) v (front ++ y ∷ back) ≡ front ++ v ∷ first_covered n ms v back
  covered_past n zero ms [] y back e = refl
  covered_past n zero ms (x ∷ xs) y back e = absurd (omega (arith, e))
  covered_past n (suc k) ms [] y back e = absurd (omega (arith, e))
  covered_past n (suc k) ms (x ∷ xs) y back e = ap (λ zs. x ∷ zs) (covered_past n k ms xs y back (omega (arith, e)))

  -- without a marked cell nothing changes
  pub covered_none : (n : ℕ) (ms : List Bool) (xs : List X) → length (pick ms xs) ≡ 0 → first_covered n ms v xs ≡ xs
  covered_none zero ms xs none = refl
  covered_none (suc n) [] xs none = refl
  covered_none (suc n) (m ∷ ms) [] none = refl
  covered_none (suc n) (true ∷ ms) (x ∷ xs) none = absurd (omega (arith, none))
  covered_none (suc n) (false ∷ ms) (x ∷ xs) none = ap (λ zs. x ∷ zs) (covered_none (suc n) ms xs none)

  pub length-covered : (n : ℕ) (ms : List Bool) (xs : List X) → length (first_covered n ms v xs) ≡ length xs
  length-covered zero ms xs = refl
  length-covered (suc n) [] xs = refl
  length-covered (suc n) (m ∷ ms) [] = refl
  length-covered (suc n) (true ∷ ms) (x ∷ xs) = ap suc (length-covered n ms xs)
  length-covered (suc n) (false ∷ ms) (x ∷ xs) = ap suc (length-covered (suc n) ms xs)

  -- a cell with no mark stays
  covered_other : (n : ℕ) (ms : List Bool) (xs : List X) (k : ℕ) → slice_get ms k ≢ Some true → slice_get (first_covered n ms v xs) k ≡ slice_get xs k
  covered_other zero ms xs k other = refl
  covered_other (suc n) [] xs k other = refl
  covered_other (suc n) (m ∷ ms) [] k other = refl
  covered_other (suc n) (true ∷ ms) (x ∷ xs) zero other = absurd (other refl)
  covered_other (suc n) (false ∷ ms) (x ∷ xs) zero other = refl
  covered_other (suc n) (true ∷ ms) (x ∷ xs) (suc k) other = covered_other n ms xs k other
  covered_other (suc n) (false ∷ ms) (x ∷ xs) (suc k) other = covered_other (suc n) ms xs k other

  -- the first of some pixels, as the value
  abbrev first_are : ℕ → List X → List X
  first_are zero ps = ps
  first_are (suc n) [] = []
  first_are (suc n) (p ∷ ps) = v ∷ first_are n ps

  picked : (n : ℕ) (ms : List Bool) (xs : List X) → pick ms (first_covered n ms v xs) ≡ first_are n (pick ms xs)
  picked zero ms xs = refl
  picked (suc n) [] xs = refl
  picked (suc n) (m ∷ ms) [] = refl
  picked (suc n) (true ∷ ms) (x ∷ xs) = ap (λ ps. v ∷ ps) (picked n ms xs)
  picked (suc n) (false ∷ ms) (x ∷ xs) = picked (suc n) ms xs

  among_first : (n : ℕ) (ps : List X) (k : ℕ) → k < n → k < length ps → slice_get (first_are n ps) k ≡ Some v
  among_first zero ps k first within = absurd (omega (arith, first))
  among_first (suc n) [] k first within = absurd (omega (arith, within))
  among_first (suc n) (p ∷ ps) zero first within = refl
  among_first (suc n) (p ∷ ps) (suc k) first within = among_first n ps k (omega (arith, first)) (omega (arith, within))

  past_first : (n : ℕ) (ps : List X) (k : ℕ) → n ≤ k → slice_get (first_are n ps) k ≡ slice_get ps k
  past_first zero ps k past = refl
  past_first (suc n) [] k past = refl
  past_first (suc n) (p ∷ ps) zero past = absurd (omega (arith, past))
  past_first (suc n) (p ∷ ps) (suc k) past = past_first n ps k (omega (arith, past))

-- ---- what the image shows

module _ {T : Type 0} (l : Layout T) (narrow : l.width ≤ l.stride) (fits : Fits l) (count : ℕ) (value : T) where
  abbrev marks : List Bool
  marks = marks_of l.width l.height l.stride

  abbrev written : Layout T
  written = record l { cells = first_covered count marks value l.cells }

  written_outside : SameOutside l written
  written_outside = grind (arith, length-covered, covered_other, padding_unmarked)

  written_fits : Fits written
  written_fits = outside_fits l written written_outside fits

  written_pixels : pixels written ≡ first_are value count (pixels l)
  written_pixels =
      sym (marked_pixels written.cells l.width l.height l.stride written_fits narrow) ∙ picked value count marks l.cells
      ∙ ap (first_are value count) (marked_pixels l.cells l.width l.height l.stride fits narrow)

  -- a place that is among the first has the value, and another one its pixel
  at_number : (x y : ℕ) → x < l.width → y < l.height → pixel written x y ≡ (if nat_lt (y * l.width + x) count then Some value else (grid_of l).pixel x y)
  at_number x y column line =
      let k : ℕ = y * l.width + x in
      let new : pixel written x y ≡ slice_get (first_are value count (pixels l)) k =
      sym (joined_pixel written.cells l.width l.height l.stride x y written_fits column line) ∙ ap (λ ps. slice_get ps k) written_pixels in
      elim (cases_lt k count) [
        | inl first ↦
            let within : k < length (pixels l) = let high : y + 1 ≤ l.height = omega (arith, line) in omega (arith, length-joined_rows l.cells l.width l.height l.stride fits, mul-le-mul_right l.width high, mul_comm l.width l.height, column) in
            new ∙ among_first value count (pixels l) k first within ∙ sym (cond-true (nat_lt k count) (Some value) ((grid_of l).pixel x y) (lt-ltb k count first))
        | inr past ↦
            new ∙ past_first value count (pixels l) k past ∙ joined_pixel l.cells l.width l.height l.stride x y fits column line ∙ sym (pixel_at l x y column line)
            ∙ sym (cond-false (nat_lt k count) (Some value) ((grid_of l).pixel x y) (le-ltb k count past))
      ]

  written_grid : grid_of written ≡ with_first (grid_of l) count value
  unfolding grid_of
  written_grid = same_grids l.width l.height (pixel written) (λ x y. if nat_lt (y * l.width + x) count then Some value else (grid_of l).pixel x y) at_number

-- ---- an image whose cells were so written

module _ {C T : Type 0} (cells : C → List T) (with_cells : C → Stretch → List T → C)
    (others_stay : (c : C) (s : Stretch) (ws : List T) → s.start + s.len ≤ length (cells c) → length ws ≡ s.len → cells (with_cells c s ws) ≡ with_stretch (cells c) s ws)
    (i j : Img C) (count : ℕ) (value : T) (is : j ≡ with_all cells with_cells i (first_covered count (marks_of i.width i.height i.stride) value (cells (buf_of i)))) (narrow : width_of i ≤ stride_of i) (fits : Fits (layout_by cells i)) where
  abbrev old : Layout T
  old = layout_by cells i

  abbrev ys : List T
  ys = first_covered count (marks_of i.width i.height i.stride) value (cells (buf_of i))

  pub image_shows : (grid_by cells j ≡ with_first (grid_of old) count value) × SameOutside old (layout_by cells j) × (j ≡ with_all cells with_cells i (cells (buf_of j)))
  image_shows = let outside = written_outside old narrow fits count value in shows cells with_cells others_stay i j ys is outside.length_stays _ (written_grid old narrow fits count value) outside
