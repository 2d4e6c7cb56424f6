-- Grids that agree by the pixel's own equality.
use Rattle.std.proofs.Common.{◌≡◌, ℕ, suc, ◌+◌, ◌*◌, ◌<◌, Bool, List, [], ◌∷◌, ◌++◌, map, Some, Option, sym, ap, ◌∙◌, subst, arith, IsTrue}
use Rattle.std.specs.List.{slice_get, AllZip, filter_map, flat_map, range_with_len, cons_option}
use Rattle.image_model.specs.Layout.{Layout, Fits, pixel}
use Rattle.image_model.specs.Grid.{Grid, grid, grid_of, view, patch, Agree, AlikePixels}
use Rattle.image_model.specs.Rows.{row_count, rows, joined_rows, grid_row, grid_rows}
use Rattle.image_model.proofs.Rows.{grid_rows_of}
use Rattle.image_model.proofs.Pixels.{joined_pixel}

module _ {T : Type 0} (eq : T → T → Bool) where
  -- lists with equal pixels, one by one
  abbrev pub PixelsAlike : List T → List T → Type 0
  PixelsAlike xs ys = AllZip (λ a b. IsTrue (eq a b)) xs ys

  -- grids of one size with alike pixels at each place agree
  pub agree_grid : (v w g h : ℕ) (f k : ℕ → ℕ → Option T) → v ≡ w → g ≡ h → ((x y : ℕ) → x < w → y < h → AlikePixels eq (f x y) (k x y)) → Agree eq (grid v g f) (grid w h k)
  agree_grid v w g h f k wide high each = grind arith

  -- ---- what is done to grids that agree

  -- the same window of both
  pub agree_view : (g h : Grid T) (left top width height : ℕ) → Agree eq g h → Agree eq (view g left top width height) (view h left top width height)
  unfolding view
  agree_view g h left top width height a = grind arith

  -- grids that agree, patched with grids that agree
  pub agree_patch : (g h p q : Grid T) (left top : ℕ) → Agree eq g h → Agree eq p q → Agree eq (patch g left top p) (patch h left top q)
  unfolding patch
  agree_patch g h p q left top a b = grind arith

  -- ---- grids that agree, pixel by pixel

  alike_cons : (o p : Option T) (xs ys : List T) → AlikePixels eq o p → PixelsAlike xs ys → PixelsAlike (cons_option o xs) (cons_option p ys)
  alike_cons (Some a) (Some b) xs ys h k = (h, k)
  alike_cons _ _ xs ys h k = grind arith

  alike_append : (xs ys us vs : List T) → PixelsAlike xs ys → PixelsAlike us vs → PixelsAlike (xs ++ us) (ys ++ vs)
  alike_append (x ∷ xs) (y ∷ ys) us vs h k = (h.0, alike_append xs ys us vs h.1 k)
  alike_append _ _ us vs h k = grind arith

  alike_columns : (g h : Grid T) (y : ℕ) (xs : List ℕ) → Agree eq g h → PixelsAlike (filter_map (λ x. g.pixel x y) xs) (filter_map (λ x. h.pixel x y) xs)
  alike_columns g h y [] a = tt
  alike_columns g h y (x ∷ xs) a = alike_cons (g.pixel x y) (h.pixel x y) _ _ (a.alike x y) (alike_columns g h y xs a)

  -- each row of both
  pub agree_row : (g h : Grid T) (y : ℕ) → Agree eq g h → PixelsAlike (grid_row g y) (grid_row h y)
  agree_row g h y a =
      subst (λ w. PixelsAlike (grid_row g y) (filter_map (λ x. h.pixel x y) (range_with_len 0 w))) a.same_width (alike_columns g h y (range_with_len 0 g.width) a)

  -- all rows of both
  pub agree_rows : (g h : Grid T) → Agree eq g h → AllZip PixelsAlike (grid_rows g) (grid_rows h)
  agree_rows g h a =
      subst (λ n. AllZip PixelsAlike (grid_rows g) (map (grid_row h) (range_with_len 0 n)))
      (ap (λ w. row_count w g.height) a.same_width ∙ ap (row_count h.width) a.same_height)
      (lines (range_with_len 0 (row_count g.width g.height)))
    where
      lines : (ys : List ℕ) → AllZip PixelsAlike (map (grid_row g) ys) (map (grid_row h) ys)
      lines [] = tt
      lines (y ∷ ys) = (agree_row g h y a, lines ys)

  -- rows that are equal one by one are so joined
  pub alike_joined : (xss yss : List (List T)) → AllZip PixelsAlike xss yss → PixelsAlike (flat_map (λ r. r) xss) (flat_map (λ r. r) yss)
  alike_joined (xs ∷ xss) (ys ∷ yss) h = alike_append xs ys _ _ h.0 (alike_joined xss yss h.1)
  alike_joined _ _ h = grind arith

  alike_at : (xs ys : List T) → PixelsAlike xs ys → (k : ℕ) → AlikePixels eq (slice_get xs k) (slice_get ys k)
  alike_at (x ∷ xs) (y ∷ ys) h (suc k) = alike_at xs ys h.1 k
  alike_at _ _ h _ = grind arith

  -- ---- layouts

  -- the rows of layouts whose grids agree
  pub rows_from_agree : (k l : Layout T) → Agree eq (grid_of k) (grid_of l) → AllZip PixelsAlike (rows k) (rows l)
  rows_from_agree k l a =
      subst (λ xss. AllZip PixelsAlike xss (rows l)) (grid_rows_of k) (subst (λ yss. AllZip PixelsAlike (grid_rows (grid_of k)) yss) (grid_rows_of l) (agree_rows (grid_of k) (grid_of l) a))

  -- layouts of one size that fit have grids that agree if their joined rows are equal
  pub agree_from_joined : (k l : Layout T) → Fits k → Fits l → k.width ≡ l.width → k.height ≡ l.height → PixelsAlike (joined_rows k) (joined_rows l) → Agree eq (grid_of k) (grid_of l)
  unfolding grid_of
  agree_from_joined k l k_fits l_fits wide high same =
      agree_grid k.width l.width k.height l.height (pixel k) (pixel l) wide high (λ x y column line.
      let one : slice_get (joined_rows k) (y * l.width + x) ≡ pixel k x y =
      ap (λ w. slice_get (joined_rows k) (y * w + x)) (sym wide) ∙ joined_pixel k.cells k.width k.height k.stride x y k_fits (omega (arith, wide)) (omega (arith, high)) in
      subst (λ o. AlikePixels eq o (pixel l x y)) one
      (subst (λ p. AlikePixels eq (slice_get (joined_rows k) (y * l.width + x)) p) (joined_pixel l.cells l.width l.height l.stride x y l_fits column line)
      (alike_at (joined_rows k) (joined_rows l) same (y * l.width + x))))
