-- Images that become brighter: each pixel by so much, up to 255.
use Rattle.std.specs.Prelude.{ℕ, ◌+◌, min}
use Rattle.image_model.specs.Grid.{Grid}
use Rattle.image_model.specs.Mapped.{mapped}

-- a pixel that has so much more, up to 255
abbrev pub brighter : ℕ → ℕ → ℕ
brighter by p = min (p + by) 255

-- every pixel has so much more
abbrev pub brightened : ℕ → Grid ℕ → Grid ℕ
brightened by g = mapped (brighter by) g
