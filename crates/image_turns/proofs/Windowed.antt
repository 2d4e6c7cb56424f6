-- A grid that is written window by window.
use Rattle.std.proofs.Common.{◌≡◌, ℕ, ◌+◌, ◌-◌, ◌<◌, ◌≤◌, ◌⊎◌, List, Option, subst, refl, ap, sym, ◌∙◌, arith, inl, inr}
use Rattle.std.proofs.lemmas.Bool.{cases_lt}
use Rattle.image_model.specs.Layout.{SameOutside, pixel}
use Rattle.image_model.specs.Grid.{Grid, grid, grid_of, patch, view}
use Rattle.image_model.specs.Windows.{Window, window}
use Rattle.image_model.proofs.Grids.{at_place, pixel_at, same_grids}
use Rattle.image_model.proofs.Patches.{in_patch, beside_patch, in_view}
use Rattle.image_model.proofs.Places.{outside_trans}
use Rattle.image_shape.specs.Shape.{shaped, shaped_grid}
use Rattle.image_shape.specs.declared.shape.Shape.{Shape}
use Rattle.image_writes.specs.Written.{Becomes}

-- a place is beside a window
abbrev pub IsBeside : (left top width height x y : ℕ) → Type 0
IsBeside left top width height x y = (x < left) ⊎ ((y < top) ⊎ ((left + width ≤ x) ⊎ (top + height ≤ y)))

-- the columns before this one
abbrev pub InStrips : ℕ → ℕ → ℕ → Type 0
InStrips left x y = x < left

-- of one strip more, of all rows, those beside it come before
pub before_strip : (left count height x y : ℕ) → y < height → InStrips (left + count) x y → IsBeside left 0 count height x y → InStrips left x y
before_strip left count height x y line next beside =
    elim beside [ inl before ↦ before | inr (inl above) ↦ absurd (omega (arith, above)) | inr (inr (inl after)) ↦ absurd (omega (arith, after, next)) | inr (inr (inr below)) ↦ absurd (omega (arith, below, line)) ]

-- the places of which a fact holds show a grid, and the padding is as before
pub record ShowsWhere {T : Type 0} (Done : ℕ → ℕ → Type 0) (q : Grid T) (old new : List T) (s : Shape) : Type 0 where
  pub outside : SameOutside (shaped old s) (shaped new s)
  pub each : (x y : ℕ) → x < s.width → y < s.height → Done x y → (shaped_grid new s).pixel x y ≡ q.pixel x y

-- no place yet
pub shows_none : {T : Type 0} {q : Grid T} {s : Shape} (Done : ℕ → ℕ → Type 0) (cells : List T) → ((x y : ℕ) → Done x y → ⊥) → ShowsWhere Done q cells cells s
shows_none Done cells none = record {
  outside = record { width_stays = refl; height_stays = refl; stride_stays = refl; length_stays = refl; padding_stays = λ k padding. refl };
  each = λ x y column line done. absurd (none x y done);
}

-- a window of which the part is written
pub window_becomes : {T : Type 0} (q : Grid T) (s : Shape) (now new : List T) (w : Window) (left top width height : ℕ) → w ≡ window left top width height → (g : Grid T) → g ≡ view q left top width height
    → Becomes s now new (patch (shaped_grid now s) w.left w.top g) → Becomes s now new (patch (shaped_grid now s) left top (view q left top width height))
window_becomes q s now new w left top width height is g shown became =
    subst (Becomes s now new) (λ i. patch (shaped_grid now s) (is i).left (is i).top (shown i)) became

module _ {T : Type 0} {Done : ℕ → ℕ → Type 0} {q : Grid T} {old now : List T} {s : Shape} (so : ShowsWhere Done q old now s) where
  -- one window more
  module _ {new : List T} (left top width height : ℕ) (became : Becomes s now new (patch (shaped_grid now s) left top (view q left top width height))) where
    within : (x y : ℕ) → x < s.width → y < s.height → left ≤ x → top ≤ y → x < left + width → y < top + height → (shaped_grid new s).pixel x y ≡ q.pixel x y
    unfolding view
    within x y in_x in_y from_left from_top upto_left upto_top =
        let same_x : left + (x - left) ≡ x = omega (arith, from_left) in
        let same_y : top + (y - top) ≡ y = omega (arith, from_top) in
        ap (λ g. g.pixel x y) became.grid
        ∙ in_patch (shaped now s) left top (view q left top width height) x y in_x in_y from_left from_top upto_left upto_top
        ∙ in_view q left top width height (x - left) (y - top) (omega (arith, from_left, upto_left)) (omega (arith, from_top, upto_top))
        ∙ (λ i. q.pixel (same_x i) (same_y i))

    beside : (x y : ℕ) → IsBeside left top width height x y → (shaped_grid new s).pixel x y ≡ (shaped_grid now s).pixel x y
    unfolding view
    beside x y out = ap (λ g. g.pixel x y) became.grid ∙ beside_patch (shaped now s) left top (view q left top width height) x y out

    pub shows_more : {Next : ℕ → ℕ → Type 0} → ((x y : ℕ) → x < s.width → y < s.height → Next x y → IsBeside left top width height x y → Done x y) → ShowsWhere Next q old new s
    shows_more known = record {
      outside = outside_trans (shaped old s) (shaped now s) (shaped new s) so.outside became.outside;
      each = λ x y in_x in_y next.
          let other : IsBeside left top width height x y → (shaped_grid new s).pixel x y ≡ q.pixel x y = λ out. beside x y out ∙ so.each x y in_x in_y (known x y in_x in_y next out) in
          elim (cases_lt x left) [
            | inl before ↦ other (inl before)
            | inr from_left ↦
                elim (cases_lt y top) [
                  | inl above ↦ other (inr (inl above))
                  | inr from_top ↦
                      elim (cases_lt x (left + width)) [
                        | inr after ↦ other (inr (inr (inl after)))
                        | inl upto_left ↦ elim (cases_lt y (top + height)) [ inr below ↦ other (inr (inr (inr below))) | inl upto_top ↦ within x y in_x in_y from_left from_top upto_left upto_top ]
                      ]
                ]
          ];
    }

  -- all places
  pub shows_all : ((x y : ℕ) → x < s.width → y < s.height → Done x y) → (f : ℕ → ℕ → Option T) → q ≡ grid s.width s.height f → Becomes s old now q
  unfolding grid_of
  shows_all all f is_q = record {
    grid =
        same_grids s.width s.height (pixel (shaped now s)) f (λ x y in_x in_y.
        sym (pixel_at (shaped now s) x y in_x in_y) ∙ so.each x y in_x in_y (all x y in_x in_y) ∙ ap (λ g. g.pixel x y) is_q ∙ at_place s.width s.height f x y in_x in_y)
        ∙ sym is_q;
    outside = so.outside;
  }
