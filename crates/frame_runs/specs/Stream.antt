-- Pieces one after the other, as the frames of a video or pictures: each has a head, and cells after it.
use Rattle.std.specs.Prelude.{◌≡◌, ℕ, ◌+◌, List, [], ◌∷◌, ◌++◌, length}
use Rattle.std.specs.List.{flat_map}
use Rattle.frame_formats.specs.Recipe.{Recipe}

-- a head, the cells after it, and what is done to both
pub record Piece : Type 0 where
  pub head : List ℕ
  pub cells : List ℕ
  pub recipe : Recipe

abbrev pub piece : List ℕ → List ℕ → Recipe → Piece
piece head cells recipe = record { head = head; cells = cells; recipe = recipe }

-- a piece, where this tells which heads there are, with the recipe of each
abbrev pub IsPiece : (List ℕ → Recipe → Type 0) → Piece → Type 0
IsPiece heads p = heads p.head p.recipe × (length p.cells ≡ p.recipe.size)

abbrev pub piece_text : Piece → List ℕ
piece_text p = p.head ++ p.cells

-- pieces, one after the other
abbrev pub pieces_text : List Piece → List ℕ
pieces_text pieces = flat_map piece_text pieces

-- what the piece of this number becomes
abbrev pub made_text : ℕ → Piece → List ℕ
made_text number p = p.recipe.head ++ p.recipe.frame number p.cells

-- what pieces become, the first of which has this number
abbrev pub all_made : ℕ → List Piece → List ℕ
all_made number [] = []
all_made number (p ∷ ps) = made_text number p ++ all_made (number + 1) ps
