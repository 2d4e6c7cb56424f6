-- The joined rows, pixel by pixel.
use Rattle.std.proofs.Common.{◌≡◌, ℕ, zero, suc, ◌+◌, ◌*◌, ◌<◌, ◌≤◌, inl, inr, List, length, get_or, ap, ◌∙◌, subst, arith}
use Rattle.std.specs.List.{slice_get}
use Rattle.std.proofs.Math.Nat.{mul-le-mul_right}
use Rattle.std.proofs.lemmas.Bool.{cases_lt}
use Rattle.std.proofs.lemmas.Option.{slice_get_cases, slice_get-get_or}
use Rattle.image_model.specs.Layout.{Layout, layout, Fits, pixel}
use Rattle.image_model.specs.Rows.{row, joined_rows}
use Rattle.image_model.proofs.Rows.{HasRows, joined_upto, joined_upto_suc, joined_is, length-joined_upto, row_stretch, rows_from_fits}
use Rattle.image_model.proofs.Cells.{slice_get-take, slice_get-drop, slice_get-append_left, slice_get-append_right}

-- two cells are one if they are read alike
pub same_cell : {T : Type 0} (xs ys : List T) (i j : ℕ) → i < length xs → j < length ys → ((d : T) → get_or xs i d ≡ get_or ys j d) → slice_get xs i ≡ slice_get ys j
same_cell xs ys i j in_xs in_ys read = grind (arith, slice_get_cases, slice_get-get_or)

-- cell x of row y
pub pixel_of_row : {T : Type 0} (l : Layout T) (x y : ℕ) → x < l.width → slice_get (row l y) x ≡ pixel l x y
pixel_of_row l x y column = grind (arith, row_stretch, slice_get-take, slice_get-drop)

joined_pixel_upto : {T : Type 0} (l : Layout T) (n x y : ℕ) → HasRows l n → x < l.width → y < n → slice_get (joined_upto l n) (y * l.width + x) ≡ pixel l x y
joined_pixel_upto l zero x y within column below = absurd (omega arith)
joined_pixel_upto l (suc n) x y within column below =
    let earlier : HasRows l n = λ j lt. within j (omega arith) in
    let len = length-joined_upto l n earlier in
    let more = joined_upto_suc l n in
    elim (cases_lt y n) [
      | inl lt ↦
          let le : y + 1 ≤ n = omega arith in
          ap (λ xs. slice_get xs (y * l.width + x)) more
          ∙ slice_get-append_left (joined_upto l n) (row l n) (y * l.width + x) (omega (arith, mul-le-mul_right l.width le, len))
          ∙ joined_pixel_upto l n x y earlier column lt
      | inr ge ↦
          let same : n ≡ y = omega arith in
          subst (λ r. slice_get (joined_upto l (suc n)) (r * l.width + x) ≡ pixel l x r) same
          (ap (λ xs. slice_get xs (n * l.width + x)) more ∙ slice_get-append_right (joined_upto l n) (row l n) (n * l.width) x len ∙ pixel_of_row l x n column)
    ]

-- the pixel in column x of row y is number y * width + x of the joined rows
pub joined_pixel : {T : Type 0} (cells : List T) (w h s x y : ℕ) → Fits (layout cells w h s) → x < w → y < h → slice_get (joined_rows (layout cells w h s)) (y * w + x) ≡ pixel (layout cells w h s) x y
joined_pixel {T} cells w h s x y fits column below =
    let l : Layout T = layout cells w h s in
    ap (λ xs. slice_get xs (y * w + x)) (joined_is cells w h s) ∙ joined_pixel_upto l h x y (rows_from_fits l fits (omega arith)) column below
