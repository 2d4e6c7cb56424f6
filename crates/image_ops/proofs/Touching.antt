-- Rows that touch, as one row: what is filled, copied or compared there.
use Rattle.std.proofs.Common.{◌≡◌, ℕ, ◌+◌, ◌*◌, ◌<◌, ◌/◌, ◌%◌, Bool, List, Some, refl, sym, subst, ap, ◌∙◌, arith, inl, inr}
use Rattle.std.specs.Cmp.Lexicographic.{pointwise}
use Rattle.std.proofs.Math.Nat.{mod-lt, div-lt_iff_lt-mul}
use Rattle.std.proofs.lemmas.Nat.{div-add-mod'}
use Rattle.image_model.specs.Layout.{layout, pixel, Fits, IsPadding, SameOutside}
use Rattle.image_model.specs.Rows.{rows}
use Rattle.image_model.specs.Grid.{grid_of, uniform}
use Rattle.image_model.proofs.Grids.{same_grids}
use Rattle.image_shape.specs.declared.shape.Shape.{Shape}
use Rattle.image_shape.specs.Shape.{shape_width, shape_height, shaped}
use Rattle.image_ops.specs.Joined.{IsOneRow, AreFewestRows}
use Rattle.image_writes.specs.Written.{HaveSameSize}
use Rattle.image_ops.proofs.FirstRows.{one_row_fits, as_one_row}

module _ (w h : ℕ) where
  -- a place of the rows is one of the row
  within : (x y : ℕ) → x < w → y < h → y * w + x < w * h
  within x y column line = grind arith

  -- padding of the rows is padding of the row
  padding : (k : ℕ) → IsPadding w h w k → IsPadding (w * h) 1 (w * h) k
  padding k p = record {
    no_place = λ x y column line same.
        let below : k < w * h = grind (arith, column, line, same) in
        let turned : k < h * w = omega (arith, below) in
        let some : 0 < w = grind (arith, below) in
        p.no_place (k % w) (k / w) (mod-lt k some) ((div-lt_iff_lt-mul some).1 turned) (div-add-mod' k w);
  }

  -- the rows have the value where the row has it
  pub filled_at_once : {T : Type 0} (news : List T) (value : T) → grid_of (layout news (w * h) 1 (w * h)) ≡ uniform (w * h) 1 value → grid_of (layout news w h w) ≡ uniform w h value
  unfolding grid_of uniform
  filled_at_once news value filled =
      same_grids w h (pixel (layout news w h w)) (λ _ _. Some value)
      (λ x y column line. let below = within x y column line in let shown = ap (λ g. g.pixel (y * w + x) 0) filled in grind (arith, shown, below))

  -- and everything else stays where it stays outside the row
  pub outside_at_once : {T : Type 0} (olds news : List T) → SameOutside (layout olds (w * h) 1 (w * h)) (layout news (w * h) 1 (w * h)) → SameOutside (layout olds w h w) (layout news w h w)
  outside_at_once olds news s = record {
    width_stays = refl;
    height_stays = refl;
    stride_stays = refl;
    length_stays = s.length_stays;
    padding_stays = λ k p. s.padding_stays k (padding k p);
  }

  -- two images show the same where their rows do, as one row
  pub shown_at_once : {T : Type 0} (news source : List T) → grid_of (layout news (w * h) 1 (w * h)) ≡ grid_of (layout source (w * h) 1 (w * h)) → grid_of (layout news w h w) ≡ grid_of (layout source w h w)
  unfolding grid_of
  shown_at_once news source same =
      same_grids w h (pixel (layout news w h w)) (pixel (layout source w h w))
      (λ x y column line. let below = within x y column line in let shown = ap (λ g. g.pixel (y * w + x) 0) same in grind (arith, shown, below))

-- ---- of shapes

module _ {T : Type 0} (s one : Shape) (j : IsOneRow s one) where
  rows_are : (cells : List T) → shaped cells s ≡ layout cells s.width s.height s.width
  rows_are cells = λ i. layout cells s.width s.height (j.touch i)

  row_is : (cells : List T) → shaped cells one ≡ layout cells (s.width * s.height) 1 (s.width * s.height)
  row_is cells = λ i. layout cells (j.width i) (j.height i) (j.stride i)

  joined_fits : (cells : List T) → Fits (shaped cells s) → Fits (shaped cells one)
  joined_fits cells fits = subst Fits (sym (row_is cells)) (one_row_fits cells s.width s.height (subst Fits (rows_are cells) fits))

  joined_outside : (olds news : List T) → SameOutside (shaped olds one) (shaped news one) → SameOutside (shaped olds s) (shaped news s)
  joined_outside olds news o =
      subst (λ l. SameOutside l (shaped news s)) (sym (rows_are olds))
      (subst (SameOutside (layout olds s.width s.height s.width)) (sym (rows_are news))
      (outside_at_once s.width s.height olds news (subst (λ l. SameOutside l (layout news (s.width * s.height) 1 (s.width * s.height))) (row_is olds) (subst (SameOutside (shaped olds one)) (row_is news) o))))

module _ (s t u v : Shape) (wide : shape_width s ≡ shape_width t) (high : shape_height s ≡ shape_height t) (so : AreFewestRows s t u v) where
  module _ {T : Type 0} where
    pub first_fits : (cells : List T) → Fits (shaped cells s) → Fits (shaped cells u)
    first_fits cells fits = elim so [ inl same ↦ subst (λ r. Fits (shaped cells r)) (sym same.0) fits | inr one ↦ joined_fits s u one.0 cells fits ]

    second_fits : (cells : List T) → Fits (shaped cells t) → Fits (shaped cells v)
    second_fits cells fits = elim so [ inl same ↦ subst (λ r. Fits (shaped cells r)) (sym same.1) fits | inr one ↦ joined_fits t v one.1 cells fits ]

    -- the sizes are those of one image
    pub same_sizes : (cells source : List T) → Fits (shaped cells s) → Fits (shaped source t) → HaveSameSize cells u source v
    same_sizes cells source fits source_fits = record {
      fits = first_fits cells fits;
      source_fits = second_fits source source_fits;
      width = elim so [ inl same ↦ ap shape_width same.0 ∙ wide ∙ sym (ap shape_width same.1) | inr one ↦ one.0.width ∙ (λ i. wide i * high i) ∙ sym one.1.width ];
      height = elim so [ inl same ↦ ap shape_height same.0 ∙ high ∙ sym (ap shape_height same.1) | inr one ↦ one.0.height ∙ sym one.1.height ];
    }

    pub stays_outside : (olds news : List T) → SameOutside (shaped olds u) (shaped news u) → SameOutside (shaped olds s) (shaped news s)
    stays_outside olds news o = elim so [ inl same ↦ subst (λ r. SameOutside (shaped olds r) (shaped news r)) same.0 o | inr one ↦ joined_outside s u one.0 olds news o ]

    pub shows_value : (news : List T) (value : T) → grid_of (shaped news u) ≡ uniform (shape_width u) (shape_height u) value → grid_of (shaped news s) ≡ uniform (shape_width s) (shape_height s) value
    shows_value news value filled =
        elim so [
          | inl same ↦ subst (λ r. grid_of (shaped news r) ≡ uniform (shape_width r) (shape_height r) value) same.0 filled
          | inr one ↦
              ap grid_of (rows_are s u one.0 news) ∙ filled_at_once s.width s.height news value (sym (ap grid_of (row_is s u one.0 news)) ∙ filled ∙ (λ i. uniform (one.0.width i) (one.0.height i) value))
        ]

    pub shows_source : (news source : List T) → grid_of (shaped news u) ≡ grid_of (shaped source v) → grid_of (shaped news s) ≡ grid_of (shaped source t)
    shows_source news source same_grid =
        elim so [
          | inl same ↦ (λ i. grid_of (shaped news (sym same.0 i))) ∙ same_grid ∙ (λ i. grid_of (shaped source (same.1 i)))
          | inr one ↦
              let size : layout source (s.width * s.height) 1 (s.width * s.height) ≡ layout source (t.width * t.height) 1 (t.width * t.height) = λ i. layout source (wide i * high i) 1 (wide i * high i) in
              let back : layout source s.width s.height s.width ≡ layout source t.width t.height t.width = λ i. layout source (wide i) (high i) (wide i) in
              ap grid_of (rows_are s u one.0 news)
              ∙ shown_at_once s.width s.height news source (sym (ap grid_of (row_is s u one.0 news)) ∙ same_grid ∙ ap grid_of (row_is t v one.1 source) ∙ sym (ap grid_of size))
              ∙ ap grid_of back
              ∙ sym (ap grid_of (rows_are t v one.1 source))
        ]

    pub same_result : (E : T → T → Bool) (xs ys : List T) → Fits (shaped xs s) → Fits (shaped ys t)
        → pointwise (pointwise E) (rows (shaped xs u)) (rows (shaped ys v)) ≡ pointwise (pointwise E) (rows (shaped xs s)) (rows (shaped ys t))
    same_result E xs ys fits others =
        elim so [
          | inl same ↦ λ i. pointwise (pointwise E) (rows (shaped xs (same.0 i))) (rows (shaped ys (same.1 i)))
          | inr one ↦
              let size : layout ys (s.width * s.height) 1 (s.width * s.height) ≡ layout ys (t.width * t.height) 1 (t.width * t.height) = λ i. layout ys (wide i * high i) 1 (wide i * high i) in
              let back : layout ys s.width s.height s.width ≡ layout ys t.width t.height t.width = λ i. layout ys (wide i) (high i) (wide i) in
              (λ i. pointwise (pointwise E) (rows (row_is s u one.0 xs i)) (rows (row_is t v one.1 ys i)))
              ∙ (λ i. pointwise (pointwise E) (rows (layout xs (s.width * s.height) 1 (s.width * s.height))) (rows (sym size i)))
              ∙ as_one_row E xs ys s.width s.height (subst Fits (rows_are s u one.0 xs) fits) (subst Fits (sym back) (subst Fits (rows_are t v one.1 ys) others))
              ∙ (λ i. pointwise (pointwise E) (rows (sym (rows_are s u one.0 xs) i)) (rows (back i)))
              ∙ (λ i. pointwise (pointwise E) (rows (shaped xs s)) (rows (sym (rows_are t v one.1 ys) i)))
        ]
