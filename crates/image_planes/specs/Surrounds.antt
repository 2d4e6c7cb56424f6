-- A grid that has a pattern around a window.
use Rattle.std.specs.Prelude.{ℕ, ◌+◌, ◌-◌, List}
use Rattle.image_model.specs.Grid.{Grid, patch}
use Rattle.image_ops.specs.Repeated.{repeated}

-- a grid with the windows above, below, left and right of one filled
abbrev pub bordered : Grid ℕ → ℕ → ℕ → ℕ → ℕ → List ℕ → Grid ℕ
bordered g left top width height pattern =
    patch (patch (patch (patch g 0 0 (repeated g.width top pattern)) 0 (top + height) (repeated g.width (g.height - (top + height)) pattern)) 0 top (repeated left height pattern)) (left + width) top (repeated (g.width - (left + width)) height pattern)
