-- Thinning by two passes: places at the edge of a shape go, where the shape stays in one piece.
use Rattle.std.specs.Prelude.{ℕ, ◌+◌, ◌-◌, ◌==◌, ◌&&◌, nat_le, min, Bool, if◌then◌else◌}
use Rattle.image_model.specs.Grid.{Grid, shown}
use Rattle.image_model.specs.ByPlace.{from_places}

-- 1 where the place one column before and one row above is set, and 0 where it is not or there is none. So each place has eight neighbours
abbrev pub ink : Grid ℕ → ℕ → ℕ → ℕ
ink g x y = if x == 0 then 0 else (if y == 0 then 0 else min (shown g (x - 1) (y - 1)) 1)

-- 1 where the ink begins
abbrev pub rise : ℕ → ℕ → ℕ
rise before here = here - min before here

-- how many neighbours are set
abbrev pub neighbours : Grid ℕ → ℕ → ℕ → ℕ
neighbours g x y = ink g (x + 1) y + ink g (x + 2) y + ink g (x + 2) (y + 1) + ink g (x + 2) (y + 2) + ink g (x + 1) (y + 2) + ink g x (y + 2) + ink g x (y + 1) + ink g x y

-- how often the ink begins on the way round the place: once where its neighbours are in one piece
abbrev pub begins : Grid ℕ → ℕ → ℕ → ℕ
begins g x y =
    rise (ink g (x + 1) y) (ink g (x + 2) y) + rise (ink g (x + 2) y) (ink g (x + 2) (y + 1)) + rise (ink g (x + 2) (y + 1)) (ink g (x + 2) (y + 2)) + rise (ink g (x + 2) (y + 2)) (ink g (x + 1) (y + 2))
    + rise (ink g (x + 1) (y + 2)) (ink g x (y + 2)) + rise (ink g x (y + 2)) (ink g x (y + 1)) + rise (ink g x (y + 1)) (ink g x y) + rise (ink g x y) (ink g (x + 1) y)

-- 0 where the place is at an edge on the right or below, or at a corner there
abbrev pub south_east : Grid ℕ → ℕ → ℕ → ℕ
south_east g x y = min (ink g (x + 1) y) (min (ink g (x + 2) (y + 1)) (ink g (x + 1) (y + 2))) + min (ink g x (y + 1)) (min (ink g (x + 2) (y + 1)) (ink g (x + 1) (y + 2)))

-- the same on the left or above
abbrev pub north_west : Grid ℕ → ℕ → ℕ → ℕ
north_west g x y = min (ink g (x + 2) (y + 1)) (min (ink g x (y + 1)) (ink g (x + 1) y)) + min (ink g (x + 1) (y + 2)) (min (ink g x (y + 1)) (ink g (x + 1) y))

-- whether the place goes, where it is at such an edge if a number is 0
abbrev pub goes : Grid ℕ → ℕ → ℕ → ℕ → Bool
goes g x y side = nat_le 2 (neighbours g x y) && (nat_le (neighbours g x y) 6 && (begins g x y == 1 && side == 0))

-- what the place shows after a pass
abbrev pub thinner : Grid ℕ → ℕ → ℕ → ℕ → ℕ
thinner g x y side = if goes g x y side then 0 else shown g x y

-- both passes
abbrev pub thinned : ℕ → ℕ → Grid ℕ → Grid ℕ
thinned width height g =
    let first = from_places width height (λ x y. thinner g x y (south_east g x y)) in
    from_places width height (λ x y. thinner first x y (north_west first x y))
