-- Squares of which each place changes places with the one across the diagonal, pair by pair.
use Rattle.std.proofs.Common.{◌≡◌, ◌≢◌, ℕ, ◌+◌, ◌*◌, ◌<◌, ◌≤◌, ◌⊎◌, Bool, true, false, List, length, refl, sym, ap, ◌∙◌, arith, inl, inr, nat_lt, nat_le, if◌then◌else◌, ◌&&◌, max}
use Rattle.std.specs.List.{slice_get}
use Rattle.std.proofs.lemmas.Bool.{cases_lt}
use Rattle.std.proofs.lemmas.Bool.Decides.{nat_tests, eqb_tells}
use Rattle.std.proofs.lemmas.Nat.{same_from_place}
use Rattle.std.proofs.lemmas.Option.{slice_get_past}
use Rattle.image_model.specs.Layout.{Fits, IsPadding, SameOutside, pixel}
use Rattle.image_model.specs.Grid.{grid_of}
use Rattle.image_model.specs.Tables.{is_before}
use Rattle.image_model.specs.Turns.{swapped_column}
use Rattle.image_model.proofs.Grids.{pixel_at, same_grids}
use Rattle.image_model.proofs.Places.{reached}
use Rattle.image_model.proofs.Turns.{right_from_transposed, left_from_transposed, half_from_mirrored}
use Rattle.image_shape.specs.Shape.{shaped, shaped_grid}
use Rattle.image_shape.specs.declared.shape.Shape.{Shape}
use Rattle.image_turns.specs.Blocks.{is_in_strip, strip_crossed}
use Rattle.image_writes.specs.Gathered.{AreGathered}

-- whether the pair of column a and row b, to the right of the diagonal, has changed places: its column is one from `from` to `upto`, and comes before column x of row y
abbrev is_done : ℕ → ℕ → ℕ → ℕ → ℕ → ℕ → Bool
is_done from upto x y a b = nat_le from a && nat_lt a upto && is_before x y a b

-- whether column u of row v has changed places then
abbrev pub is_crossed : ℕ → ℕ → ℕ → ℕ → ℕ → ℕ → Bool
is_crossed from upto x y u v = if nat_lt v u then is_done from upto x y u v else is_done from upto x y v u

-- the cell from which column u of row v has its pixel then
abbrev pub crossed_cell : ℕ → ℕ → ℕ → ℕ → ℕ → ℕ → ℕ → ℕ
crossed_cell stride from upto x y u v = if is_crossed from upto x y u v then u * stride + v else v * stride + u

-- these pairs have changed places, and the padding stays
pub record CrossedUpto {T : Type 0} (from upto x y : ℕ) (old new : List T) (s : Shape) : Type 0 where
  pub as_many : length new ≡ length old
  pub each : (u v : ℕ) → u < s.width → v < s.height → slice_get new (v * s.stride + u) ≡ slice_get old (crossed_cell s.stride from upto x y u v)
  pub others : (k : ℕ) → IsPadding s.width s.height s.stride k → slice_get new k ≡ slice_get old k

-- a row of the strip begins at its first column, and to the right of the diagonal
cell_at_start : (stride from upto x y start u v : ℕ) → x ≡ 0 → start ≡ max from (y + 1) → crossed_cell stride from upto x y u v ≡ crossed_cell stride from upto start y u v
cell_at_start stride from upto x y start u v first at = grind (arith, nat_tests, first, at)

-- and is at its end where the next one begins
cell_at_end : (stride from upto x y u v : ℕ) → upto ≤ x → crossed_cell stride from upto x y u v ≡ crossed_cell stride from upto 0 (y + 1) u v
cell_at_end stride from upto x y u v wide = grind (arith, nat_tests, wide)

-- a place that is in no next pair
other_cell : (stride from upto x y u v : ℕ) → ((u ≡ x) × (v ≡ y) → ⊥) → ((u ≡ y) × (v ≡ x) → ⊥) → crossed_cell stride from upto x y u v ≡ crossed_cell stride from upto (x + 1) y u v
other_cell stride from upto x y u v not_first not_second = grind (arith, nat_tests, not_first, not_second)

-- two cells that are exchanged
second_of : (i j : ℕ) → swapped_column i j j ≡ i
second_of i j = grind arith

-- two places are the same or not
same_place : (u v x y : ℕ) → ((u ≡ x) × (v ≡ y)) ⊎ ((u ≡ x) × (v ≡ y) → ⊥)
same_place u v x y =
    elim (eqb_tells u x) [
      | inl (_, column) ↦ elim (eqb_tells v y) [ inl (_, line) ↦ inl (column, line) | inr (_, other) ↦ inr (λ e. other e.1) ]
      | inr (_, other) ↦ inr (λ e. other e.0)
    ]

-- once all rows of the strip are done, the places that have changed are those in it
strip_done : (from upto x y u v : ℕ) → upto ≤ y → is_crossed from upto x y u v ≡ is_in_strip from upto u v
strip_done from upto x y u v high = grind (arith, nat_tests, high)

module _ {T : Type 0} (s : Shape) where
  -- no pair yet
  pub none_crossed : (from upto : ℕ) (cells : List T) → CrossedUpto from upto 0 0 cells cells s
  none_crossed from upto cells = record {
    as_many = refl;
    each = λ u v column line. ap (slice_get cells) (grind (arith, nat_tests));
    others = λ k padding. refl;
  }

  module _ (old now : List T) (from upto x y : ℕ) (so : CrossedUpto from upto x y old now s) where
    -- the same pairs, said by another point of the loops
    same_pairs : (m n : ℕ) → ((u v : ℕ) → crossed_cell s.stride from upto x y u v ≡ crossed_cell s.stride from upto m n u v) → CrossedUpto from upto m n old now s
    same_pairs m n alike = record { as_many = so.as_many; each = λ u v column line. so.each u v column line ∙ ap (slice_get old) (alike u v); others = so.others }

    pub row_begins : (start : ℕ) → x ≡ 0 → start ≡ max from (y + 1) → CrossedUpto from upto start y old now s
    row_begins start first at = same_pairs start y (λ u v. cell_at_start s.stride from upto x y start u v first at)

    pub row_crossed : upto ≤ x → CrossedUpto from upto 0 (y + 1) old now s
    row_crossed wide = same_pairs 0 (y + 1) (λ u v. cell_at_end s.stride from upto x y u v wide)

    -- one pair more
    module _ (fits : Fits (shaped old s)) (square : s.width ≡ s.height) (right : y < x) (after : from ≤ x) (here : x < upto) (column : x < s.width) (i j : ℕ) (is_i : i ≡ y * s.stride + x) (is_j : j ≡ x * s.stride + y) where
      -- the two cells
      pub first_within : i < length now
      first_within = omega (arith, is_i, reached (length old) s.width s.height s.stride x y fits column (omega arith), so.as_many)

      pub second_within : j < length now
      second_within = omega (arith, is_j, reached (length old) s.width s.height s.stride y x fits (omega arith) (omega arith), so.as_many)

      module _ (new : List T) (as_many : length new ≡ length now) (made : AreGathered (swapped_column i j) now new) where
        other_stays : (k : ℕ) → k ≢ i → k ≢ j → slice_get new k ≡ slice_get now k
        other_stays k not_i not_j =
            elim (cases_lt k (length new)) [
              | inl here ↦ made.each k here ∙ ap (slice_get now) (grind (arith, not_i, not_j))
              | inr past ↦ slice_get_past new k past ∙ sym (slice_get_past now k (omega (arith, past, as_many)))
            ]

        first_is : slice_get new i ≡ slice_get now j
        first_is = made.each i (omega (arith, first_within, as_many)) ∙ ap (slice_get now) (grind arith)

        second_is : slice_get new j ≡ slice_get now i
        second_is = made.each j (omega (arith, second_within, as_many)) ∙ ap (slice_get now) (second_of i j)

        -- the cell of column u of row v comes from that of column v of row u
        moved : (u v k m : ℕ) → u < s.width → v < s.width → k ≡ v * s.stride + u → m ≡ u * s.stride + v → slice_get new k ≡ slice_get now m
            → crossed_cell s.stride from upto x y v u ≡ crossed_cell s.stride from upto (x + 1) y u v → slice_get new (v * s.stride + u) ≡ slice_get old (crossed_cell s.stride from upto (x + 1) y u v)
        moved u v k m in_u in_v is_k is_m shows same = ap (slice_get new) (sym is_k) ∙ shows ∙ ap (slice_get now) is_m ∙ so.each v u in_v (omega (arith, in_u, square)) ∙ ap (slice_get old) same

        crossed_at : (u v : ℕ) → u < s.width → v < s.height → slice_get new (v * s.stride + u) ≡ slice_get old (crossed_cell s.stride from upto (x + 1) y u v)
        crossed_at u v in_u in_v =
            elim (same_place u v x y) [
              | inl first ↦ rw (first.0, first.1) (moved x y i j column (omega arith) is_i is_j first_is (grind (arith, nat_tests, right, after, here)))
              | inr not_first ↦
                  elim (same_place u v y x) [
                    | inl there ↦ rw (there.0, there.1) (moved y x j i (omega arith) column is_j is_i second_is (grind (arith, nat_tests, right, after, here)))
                    | inr not_second ↦
                        let not_i : v * s.stride + u ≢ i = λ e. let p = same_from_place v u y x s.stride (omega (arith, s.holds_width)) (omega (arith, s.holds_width)) (e ∙ is_i) in not_first (p.1, p.0) in
                        let not_j : v * s.stride + u ≢ j = λ e. let p = same_from_place v u x y s.stride (omega (arith, s.holds_width)) (omega (arith, s.holds_width)) (e ∙ is_j) in not_second (p.1, p.0) in
                        other_stays (v * s.stride + u) not_i not_j ∙ so.each u v in_u in_v ∙ ap (slice_get old) (other_cell s.stride from upto x y u v not_first not_second)
                  ]
            ]

        pub one_crossed : CrossedUpto from upto (x + 1) y old new s
        one_crossed = record {
          as_many = as_many ∙ so.as_many;
          each = crossed_at;
          others = λ k padding. other_stays k (λ e. padding.no_place x y column (omega arith) (sym is_i ∙ sym e)) (λ e. padding.no_place y x (omega arith) (omega arith) (sym is_j ∙ sym e)) ∙ so.others k padding;
        }

    -- all pairs of the strip
    module _ (square : s.width ≡ s.height) (high : upto ≤ y) where
      pub strip_shown : shaped_grid now s ≡ strip_crossed from upto (shaped_grid old s)
      unfolding grid_of
      strip_shown =
          same_grids s.width s.height (pixel (shaped now s)) (λ u v. if is_in_strip from upto u v then (shaped_grid old s).pixel v u else (shaped_grid old s).pixel u v)
          (λ u v column line.
          so.each u v column line
          ∙ ap (λ b. slice_get old (if b then u * s.stride + v else v * s.stride + u)) (strip_done from upto x y u v high)
          ∙ elim (is_in_strip from upto u v) as (λ b. slice_get old (if b then u * s.stride + v else v * s.stride + u) ≡ (if b then (shaped_grid old s).pixel v u else (shaped_grid old s).pixel u v)) [
            | true ↦ sym (pixel_at (shaped old s) v u (omega (arith, line, square)) (omega (arith, column, square)))
            | false ↦ sym (pixel_at (shaped old s) u v column line)
          ])

      pub strip_outside : SameOutside (shaped old s) (shaped now s)
      strip_outside = record { width_stays = refl; height_stays = refl; stride_stays = refl; length_stays = so.as_many; padding_stays = so.others }

-- the cells of a pair are there
pub ruleset within = (first_within, second_within)

-- the laws of two steps that make a turn
pub ruleset turns = (right_from_transposed, left_from_transposed, half_from_mirrored)
