-- Places that are pending, by their numbers in a room: places are numbered row by row, and from left to right.
use Rattle.std.specs.Prelude.{◌≡◌, ◌≢◌, ℕ, ◌+◌, ◌*◌, ◌/◌, ◌%◌, ◌<◌, ◌≤◌, Bool, List, length, slice_index, take}
use Rattle.std.specs.List.{flat_map}
use Rattle.image_model.specs.Connected.{beside}
use Rattle.image_model.specs.Grid.{Grid, grid_of}
use Rattle.imgref.specs.Words.{Fits, SameOutside, TellsApart, places_where, shape_height, shape_width, shaped}
use Rattle.image_regions.specs.declared.floods.Fill.{Fill}

-- the places beside pending ones, which have to be looked at
unfoldable pub around : ℕ → List ℕ → List (ℕ × ℕ)
around width numbers = flat_map (λ n. beside (n % width) (n / width)) numbers

-- the first numbers in a room are those of places
abbrev pub ArePlaces : ℕ → ℕ → List ℕ → Type 0
ArePlaces places count room = (k : ℕ) → k < count → slice_index room k < places

-- ---- a fill

module _ {T : Type 0} (fill : Fill T) where
  -- the cells, in the fill's shape
  abbrev pub cell_grid : List T → Grid T
  cell_grid cells = grid_of (shaped cells fill.shape)

  -- the places beside the pending ones in a room
  abbrev pub to_look_at : ℕ → List ℕ → List (ℕ × ℕ)
  to_look_at count room = around (shape_width fill.shape) (take count room)

  module _ (eq : T → T → Bool) where
    -- how many places show the seed
    abbrev pub places_left : List T → ℕ
    places_left cells = places_where (λ p. eq p fill.seed) (cell_grid cells)

    -- there are places to be filled, and pending ones in a room with a number for each place that shows the seed
    pub record CanFill (cells : List T) (count : ℕ) (room : List ℕ) : Type 0 where
      pub fits : Fits (shaped cells fill.shape)
      pub tells : TellsApart eq
      pub other : fill.seed ≢ fill.value
      pub enough : count + places_left cells ≤ length room
      pub places : ArePlaces (shape_width fill.shape * shape_height fill.shape) count room

    -- some places no longer show the seed, and each of them is pending
    pub record FillsPlaces (old : List T) (count : ℕ) (before : List ℕ) (new : List T) (more : ℕ) (after : List ℕ) : Type 0 where
      pub fewer : more + places_left new ≡ count + places_left old
      pub least : count ≤ more
      pub places : ArePlaces (shape_width fill.shape * shape_height fill.shape) more after
      pub room : length after ≡ length before
      pub outside : SameOutside (shaped old fill.shape) (shaped new fill.shape)
      pub fits : Fits (shaped new fill.shape)
