-- A Gaussian blur by two passes.
use Rattle.std.specs.Prelude.{ℕ, ◌+◌, ◌-◌, ◌*◌, ◌/◌, min}
use Rattle.image_model.specs.Grid.{Grid, shown}
use Rattle.image_model.specs.ByPlace.{from_places}

-- one part of each neighbour, and two of the pixel between them
abbrev pub smooth : ℕ → ℕ → ℕ → ℕ
smooth before here after = (before + 2 * here + after) / 4

-- each row smoothed: past an edge the pixel at the edge counts
abbrev pub smoothed_across : ℕ → ℕ → Grid ℕ → Grid ℕ
smoothed_across width height g = from_places width height (λ x y. smooth (shown g (x - 1) y) (shown g x y) (shown g (min (x + 1) (width - 1)) y))

-- and then each column
abbrev pub smoothed : ℕ → ℕ → Grid ℕ → Grid ℕ
smoothed width height g =
    let rows = smoothed_across width height g in
    from_places width height (λ x y. smooth (shown rows x (y - 1)) (shown rows x y) (shown rows x (min (y + 1) (height - 1))))
