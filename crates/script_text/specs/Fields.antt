-- Paths: their texts, and which of them have one.
use Rattle.std.specs.Prelude.{List, ℕ, [], ◌∷◌, map}
use Rattle.std.specs.List.{join_with_byte, AllByRecursion}
use Rattle.image_shape.specs.declared.window.Window.{Window}
use Rattle.texts.specs.Fields.{window_text, IsWindow}

-- a path is its windows joined by slashes, or a dash where it has no window
unfoldable pub path_text : List Window → List ℕ
path_text [] = 45 ∷ []
path_text (w ∷ ws) = join_with_byte 47 (map window_text (w ∷ ws))

-- a path of such windows
abbrev pub IsPath : List Window → Type 0
IsPath windows = AllByRecursion IsWindow windows
