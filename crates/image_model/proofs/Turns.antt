-- Images as tables, and what an image shows that is turned twice.
use Rattle.std.proofs.Common.{◌≡◌, ℕ, ◌-◌, Some, refl, sym, arith}
use Rattle.std.specs.Option.{option_map, option_zip}
use Rattle.image_model.specs.Layout.{Layout, pixel}
use Rattle.image_model.specs.Grid.{Grid, grid_of, uniform}
use Rattle.image_model.specs.Mapped.{mapped}
use Rattle.image_model.specs.Swaps.{swapped_row, rows_swapped}
use Rattle.image_model.specs.Flips.{flipped}
use Rattle.image_model.specs.Tables.{table}
use Rattle.image_model.specs.ByPlace.{mapped_places, zipped, from_places}
use Rattle.image_model.specs.Turns.{swapped_column, columns_swapped, mirrored, transposed, turned_right, turned_half, turned_left}
use Rattle.image_model.proofs.Grids.{at_place, pixel_at, same_grids}

-- ---- the words of grids as tables

module _ {T : Type 0} where
  pub grid_is_table : (l : Layout T) → grid_of l ≡ table l.width l.height (grid_of l).pixel
  unfolding grid_of table
  grid_is_table l = same_grids l.width l.height (pixel l) _ (λ u v column line. sym (pixel_at l u v column line))

  pub uniform_is_table : (width height : ℕ) (value : T) → uniform width height value ≡ table width height (λ _ _. Some value)
  unfolding uniform table
  uniform_is_table width height value = refl

  pub rows_swapped_is_table : (y z : ℕ) (g : Grid T) → rows_swapped y z g ≡ table g.width g.height (λ u v. g.pixel u (swapped_row y z v))
  unfolding rows_swapped table
  rows_swapped_is_table y z g = refl

  pub flipped_is_table : (g : Grid T) → flipped g ≡ table g.width g.height (λ u v. g.pixel u (g.height - 1 - v))
  unfolding flipped table
  flipped_is_table g = refl

  pub columns_swapped_is_table : (x z : ℕ) (g : Grid T) → columns_swapped x z g ≡ table g.width g.height (λ u v. g.pixel (swapped_column x z u) v)
  unfolding columns_swapped table
  columns_swapped_is_table x z g = refl

  pub mirrored_is_table : (g : Grid T) → mirrored g ≡ table g.width g.height (λ u v. g.pixel (g.width - 1 - u) v)
  unfolding mirrored table
  mirrored_is_table g = refl

  pub transposed_is_table : (g : Grid T) → transposed g ≡ table g.height g.width (λ u v. g.pixel v u)
  unfolding transposed table
  transposed_is_table g = refl

  pub turned_right_is_table : (g : Grid T) → turned_right g ≡ table g.height g.width (λ u v. g.pixel v (g.height - 1 - u))
  unfolding turned_right table
  turned_right_is_table g = refl

  pub turned_half_is_table : (g : Grid T) → turned_half g ≡ table g.width g.height (λ u v. g.pixel (g.width - 1 - u) (g.height - 1 - v))
  unfolding turned_half table
  turned_half_is_table g = refl

  pub turned_left_is_table : (g : Grid T) → turned_left g ≡ table g.height g.width (λ u v. g.pixel (g.width - 1 - v) u)
  unfolding turned_left table
  turned_left_is_table g = refl

  pub from_places_is_table : (width height : ℕ) (f : ℕ → ℕ → T) → from_places width height f ≡ table width height (λ x y. Some (f x y))
  unfolding from_places
  from_places_is_table width height f = refl

module _ {T U : Type 0} where
  pub mapped_is_table : (f : T → U) (g : Grid T) → mapped f g ≡ table g.width g.height (λ x y. option_map f (g.pixel x y))
  unfolding mapped table
  mapped_is_table f g = refl

  pub mapped_places_is_table : (f : ℕ → ℕ → T → U) (g : Grid T) → mapped_places f g ≡ table g.width g.height (λ x y. option_map (f x y) (g.pixel x y))
  unfolding mapped_places table
  mapped_places_is_table f g = refl

  pub zipped_is_table : {V : Type 0} (f : T → U → V) (g : Grid T) (h : Grid U) → zipped f g h ≡ table g.width g.height (λ x y. option_map (λ p. f p.0 p.1) (option_zip (g.pixel x y) (h.pixel x y)))
  unfolding zipped table
  zipped_is_table f g h = refl

-- these laws, for a caller's `using`
pub ruleset as_tables = (grid_is_table, uniform_is_table, rows_swapped_is_table, flipped_is_table, columns_swapped_is_table, mirrored_is_table, transposed_is_table, turned_right_is_table, turned_half_is_table, turned_left_is_table, mapped_is_table, mapped_places_is_table, zipped_is_table, from_places_is_table)

-- ---- two steps that make a turn

module _ {T : Type 0} (g : Grid T) where
  -- transposed, and then mirrored
  pub right_from_transposed : mirrored (transposed g) ≡ turned_right g
  unfolding mirrored transposed turned_right
  right_from_transposed = same_grids g.height g.width _ _ (λ u v column line. at_place g.height g.width (λ m n. g.pixel n m) (g.height - 1 - u) v (omega arith) line)

  -- transposed, and then upside down
  pub left_from_transposed : flipped (transposed g) ≡ turned_left g
  unfolding flipped transposed turned_left
  left_from_transposed = same_grids g.height g.width _ _ (λ u v column line. at_place g.height g.width (λ m n. g.pixel n m) u (g.width - 1 - v) column (omega arith))

  -- mirrored, and then upside down
  pub half_from_mirrored : flipped (mirrored g) ≡ turned_half g
  unfolding flipped mirrored turned_half
  half_from_mirrored = same_grids g.width g.height _ _ (λ u v column line. at_place g.width g.height (λ m n. g.pixel (g.width - 1 - m) n) u (g.height - 1 - v) column (omega arith))
