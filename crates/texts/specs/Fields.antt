-- Fields: the text of a window, and which values have a text.
use Rattle.std.specs.Prelude.{ℕ, ◌<◌, ◌^◌, List, [], ◌∷◌}
use Rattle.std.specs.List.{join_with_byte}
use Rattle.std.specs.Fmt.{decimal}
use Rattle.image_shape.specs.declared.window.Window.{Window}

-- ---- texts: numbers and pixels are decimal

-- a window is four numbers joined by commas
unfoldable pub window_text : Window → List ℕ
window_text w = join_with_byte 44 (decimal w.left ∷ decimal w.top ∷ decimal w.width ∷ decimal w.height ∷ [])

-- ---- ranges

-- a number that a field may hold
abbrev pub IsWord : ℕ → Type 0
IsWord n = n < 2 ^ 64

-- a pixel of the program
abbrev pub IsPixel : ℕ → Type 0
IsPixel p = p < 2 ^ 8

-- a window whose numbers fields may hold
pub record IsWindow (w : Window) : Type 0 where
  pub left : IsWord w.left
  pub top : IsWord w.top
  pub width : IsWord w.width
  pub height : IsWord w.height
