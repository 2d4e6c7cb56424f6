-- Rows that change places.
use Rattle.std.proofs.Common.{◌≡◌, ◌≢◌, ℕ, ◌+◌, ◌-◌, ◌*◌, ◌<◌, ◌≤◌, List, refl, sym, ap, ◌∙◌, arith, inl, inr, ◌==◌}
use Rattle.std.specs.List.{slice_get}
use Rattle.std.proofs.lemmas.Bool.{cases_lt, cond-true, eq-eqb}
use Rattle.std.proofs.lemmas.Bool.Decides.{eqb_tells}
use Rattle.std.proofs.Math.Nat.{mul-le-mul_right}
use Rattle.image_model.specs.Layout.{Layout, layout, pixel, Fits, SameOutside}
use Rattle.image_model.specs.Grid.{Grid, grid_of}
use Rattle.image_model.specs.Swaps.{swapped_row, rows_swapped, StretchesSwapped}
use Rattle.image_model.proofs.Grids.{pixel_at, same_grids}

-- ---- where a row comes from

pub first_swapped : (y z : ℕ) → swapped_row y z y ≡ z
first_swapped y z = cond-true (y == y) _ _ (eq-eqb y y refl)

pub second_swapped : (y z : ℕ) → swapped_row y z z ≡ y
second_swapped y z = grind arith

pub other_stays : (y z v : ℕ) → v ≢ y → v ≢ z → swapped_row y z v ≡ v
other_stays y z v not_y not_z = grind arith

-- a row that changes places with itself
pub swapped_itself : (y v : ℕ) → swapped_row y y v ≡ v
swapped_itself y v = grind arith

-- either row may be named first
pub swapped_either : (y z v : ℕ) → swapped_row y z v ≡ swapped_row z y v
swapped_either y z v = grind arith

-- ---- grids

pub itself_stays : {T : Type 0} (l : Layout T) (y : ℕ) → grid_of l ≡ rows_swapped y y (grid_of l)
unfolding grid_of rows_swapped
itself_stays l y = same_grids l.width l.height (pixel l) _ (λ u v column line. sym (pixel_at l u v column line) ∙ ap ((grid_of l).pixel u) (sym (swapped_itself y v)))

-- where there is no column, there is nothing to change
pub nothing_swapped : {T : Type 0} (l : Layout T) (y z : ℕ) → l.width ≡ 0 → grid_of l ≡ rows_swapped y z (grid_of l)
unfolding grid_of rows_swapped
nothing_swapped l y z none = same_grids l.width l.height (pixel l) _ (λ u v column line. absurd (omega (arith, column, none)))

pub either_first : {T : Type 0} (g : Grid T) (y z : ℕ) → rows_swapped y z g ≡ rows_swapped z y g
unfolding rows_swapped
either_first g y z = same_grids g.width g.height _ _ (λ u v column line. ap (g.pixel u) (swapped_either y z v))

-- ---- the cells of two rows that have changed places

module _ {T : Type 0} (old new : List T) (w h s y z : ℕ) (fits : Fits (layout old w h s)) (wide : w ≤ s) (order : y < z) (below : z < h) (so : StretchesSwapped old new (y * s) (z * s) w) where
  shown : (u v : ℕ) → u < w → v < h → slice_get new (v * s + u) ≡ (grid_of (layout old w h s)).pixel u (swapped_row y z v)
  shown u v column line =
      elim (eqb_tells v y) [
        | inl (_, same) ↦
            ap (λ n. slice_get new (n * s + u)) same
            ∙ so.first_is u column
            ∙ sym (pixel_at (layout old w h s) u z column below)
            ∙ ap ((grid_of (layout old w h s)).pixel u) (sym (ap (swapped_row y z) same ∙ first_swapped y z))
        | inr (_, not_y) ↦
            elim (eqb_tells v z) [
              | inl (_, same) ↦
                  ap (λ n. slice_get new (n * s + u)) same
                  ∙ so.second_is u column
                  ∙ sym (pixel_at (layout old w h s) u y column (omega (arith, order, below)))
                  ∙ ap ((grid_of (layout old w h s)).pixel u) (sym (ap (swapped_row y z) same ∙ second_swapped y z))
              | inr (_, not_z) ↦
                  stays u v column not_y not_z
                  ∙ sym (pixel_at (layout old w h s) u v column line)
                  ∙ ap ((grid_of (layout old w h s)).pixel u) (sym (other_stays y z v not_y not_z))
            ]
      ]
    where
      stays : (u v : ℕ) → u < w → v ≢ y → v ≢ z → slice_get new (v * s + u) ≡ slice_get old (v * s + u)
      stays u v column not_y not_z =
          elim (cases_lt v y) [
            | inl above ↦ let next : (v + 1) * s ≤ y * s = mul-le-mul_right s (omega arith) in so.before (v * s + u) (omega (arith, next, wide, column))
            | inr from ↦
                let past : (y + 1) * s ≤ v * s = mul-le-mul_right s (omega (arith, from, not_y)) in
                elim (cases_lt v z) [
                  | inl under ↦
                      let next : (v + 1) * s ≤ z * s = mul-le-mul_right s (omega arith) in
                      so.between (v * s + u) (omega (arith, past, wide)) (omega (arith, next, wide, column))
                  | inr behind ↦
                      let far : (z + 1) * s ≤ v * s = mul-le-mul_right s (omega (arith, behind, not_z)) in
                      so.after (v * s + u) (omega (arith, far, wide))
                ]
          ]

  pub swapped_grid : grid_of (layout new w h s) ≡ rows_swapped y z (grid_of (layout old w h s))
  unfolding grid_of rows_swapped
  swapped_grid = same_grids w h (pixel (layout new w h s)) _ shown

  pub swapped_outside : SameOutside (layout old w h s) (layout new w h s)
  swapped_outside = record {
    width_stays = refl;
    height_stays = refl;
    stride_stays = refl;
    length_stays = so.as_many;
    padding_stays = λ k padding.
        elim (cases_lt k (y * s)) [
          | inl before ↦ so.before k before
          | inr from ↦
              elim (cases_lt k (y * s + w)) [
                | inl here ↦ let at : y * s + (k - y * s) ≡ k = omega arith in absurd (padding.no_place (k - y * s) y (omega arith) (omega (arith, order, below)) at)
                | inr past ↦
                    elim (cases_lt k (z * s)) [
                      | inl between ↦ so.between k past between
                      | inr behind ↦
                          elim (cases_lt k (z * s + w)) [
                            | inl there ↦ let at : z * s + (k - z * s) ≡ k = omega arith in absurd (padding.no_place (k - z * s) z (omega arith) below at)
                            | inr after ↦ so.after k after
                          ]
                    ]
              ]
        ];
  }
