-- What a contract sees of a shape: its numbers, and the layout that cells make in it.
use Rattle.std.specs.Prelude.{ℕ, ◌^◌, List, Bool, ◌&&◌, nat_le, nat_lt}
use Rattle.image_model.specs.Layout.{Layout, layout}
use Rattle.image_model.specs.Grid.{Grid, grid_of}
use Rattle.image_shape.specs.declared.shape.Shape.{Shape}

-- the number of columns
abbrev pub shape_width : Shape → ℕ
shape_width s = s.width

-- the number of rows
abbrev pub shape_height : Shape → ℕ
shape_height s = s.height

-- how many cells after the start of a row the next one begins
abbrev pub shape_stride : Shape → ℕ
shape_stride s = s.stride

-- whether there is a shape with these numbers
abbrev pub is_shape : ℕ → ℕ → ℕ → Bool
is_shape width height stride = nat_le 1 stride && (nat_le width stride && (nat_lt width (2 ^ 32) && nat_lt height (2 ^ 32)))

-- these cells in this shape
abbrev pub shaped : {T : Type 0} → List T → Shape → Layout T
shaped cells s = layout cells s.width s.height s.stride

-- and their grid
abbrev pub shaped_grid : {T : Type 0} → List T → Shape → Grid T
shaped_grid cells s = grid_of (shaped cells s)
