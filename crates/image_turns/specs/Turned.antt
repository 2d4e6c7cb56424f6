-- The turns by their names.
use Rattle.std.specs.Prelude.{ℕ}
use Rattle.image_model.specs.Grid.{Grid}
use Rattle.image_model.specs.Turns.{turned_right, turned_half, turned_left}
use Rattle.image_turns.specs.declared.turning.Turn.{Turn}
use Rattle.image_turns.specs.declared.turning.Turn.TheVariants.{Right, Half, Left}

-- the grid turned
abbrev pub turned : {T : Type 0} → Turn → Grid T → Grid T
turned Right g = turned_right g
turned Half g = turned_half g
turned Left g = turned_left g

-- how wide a size is once it is turned
abbrev pub turned_width : Turn → ℕ → ℕ → ℕ
turned_width Right width height = height
turned_width Half width height = width
turned_width Left width height = height

-- and how high
abbrev pub turned_height : Turn → ℕ → ℕ → ℕ
turned_height Right width height = width
turned_height Half width height = height
turned_height Left width height = width
