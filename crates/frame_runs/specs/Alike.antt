-- Inputs that differ only in what an edit hides, and runs that can't tell them apart.
use Rattle.std.specs.Prelude.{◌≡◌, ◌<◌, ◌⊎◌, ℕ, ◌+◌, Bool, true, false, List, [], ◌∷◌, ◌++◌, length, Option, Some, IfSome, Result, Ok, Err}
use Rattle.image_planes.specs.Changes.{Job}
use Rattle.image_planes.specs.Filled.{PlanesUnfilled}
use Rattle.image_planes.specs.Unseen.{PlanesAlike}
use Rattle.frame_edits.specs.Edits.{Edits}
use Rattle.frame_edits.specs.Order.{covers_first}
use Rattle.frame_formats.specs.Recipe.{Recipe}
use Rattle.frame_requests.specs.Seen.{SeeTheSame}
use Rattle.frame_requests.specs.declared.seen.Seen.{Seen}
use Rattle.frame_runs.specs.Program.{Stream, IsStream, begins_picture, are_pictures, front, heads_of, Writes}
use Rattle.frame_runs.specs.Seen.{RunSees}
use Rattle.frame_runs.specs.Stream.{Piece, IsPiece, pieces_text}
use Rattle.frame_requests.specs.declared.fault.RunFault.{RunFault}
use Rattle.frame_requests.specs.declared.fault.RunFault.TheVariants.{Header, Outside, Frame, Memory, Input, Output}

-- how the cells of two frames of a number may differ, by their planes
abbrev pub Cells : Type 1
Cells = ℕ → List Job → List ℕ → List ℕ → Type 0

-- two frames or pictures of this number have the same head, and differ only so
pub record PieceAlike (cells : Cells) (heads : List ℕ → Recipe → Type 0) (number : ℕ) (p q : Piece) : Type 0 where
  pub mine : IsPiece heads p
  pub theirs : IsPiece heads q
  pub same_head : p.head ≡ q.head
  pub alike : cells number p.recipe.jobs p.cells q.cells

-- the same of each two, from this number on
abbrev pub PiecesAlike : Cells → (List ℕ → Recipe → Type 0) → ℕ → List Piece → List Piece → Type 0
PiecesAlike cells heads number [] [] = Unit {0}
PiecesAlike cells heads number (p ∷ ps) (q ∷ qs) = PieceAlike cells heads number p q × PiecesAlike cells heads (number + 1) ps qs
PiecesAlike cells heads number _ _ = ⊥

-- both are one head, and then any cells, too few for it
pub record CutAlike (heads : List ℕ → Recipe → Type 0) (rest other : List ℕ) : Type 0 where
  pub head : List ℕ
  pub recipe : Recipe
  pub is : heads head recipe
  pub cells : List ℕ
  pub others : List ℕ
  pub short : length cells < recipe.size
  pub other_short : length others < recipe.size
  pub mine_is : rest ≡ head ++ cells
  pub theirs_is : other ≡ head ++ others

-- two inputs are streams of one kind, with the same heads, cells that differ only so, and the same rest after them, or a frame that is cut
pub record DifferOnly (cells : Cells) (edit : Edits) (mine theirs : List ℕ) : Type 0 where
  pub stream : Stream
  pub is : IsStream edit stream
  pub mine_kind : begins_picture mine ≡ are_pictures stream
  pub theirs_kind : begins_picture theirs ≡ are_pictures stream
  pub pieces : List Piece
  pub others : List Piece
  pub alike : PiecesAlike cells (heads_of edit stream) 0 pieces others
  pub rest : List ℕ
  pub other : List ℕ
  pub ends : (rest ≡ other) ⊎ CutAlike (heads_of edit stream) rest other
  pub mine_is : mine ≡ front stream ++ (pieces_text pieces ++ rest)
  pub theirs_is : theirs ≡ front stream ++ (pieces_text others ++ other)

-- they differ only in what the edits hide
abbrev pub Alike : Edits → List ℕ → List ℕ → Type 0
Alike = DifferOnly PlanesAlike

-- they differ only in what one of the covers and fills has, wherever flips bring it
abbrev pub AlikeUncovered : Edits → List ℕ → List ℕ → Type 0
AlikeUncovered = DifferOnly PlanesUnfilled

-- whatever was returned and written is right for each alike input too
abbrev pub Hides : Result ℕ RunFault → Edits → Option (List ℕ) → Option (List ℕ) → Option (List ℕ) → Type 0
Hides result edit input old new = IfSome input (λ mine. (theirs : List ℕ) → Alike edit mine theirs → Writes result edit (Some theirs) old new)

-- whether a device or memory ended a run before its input told its end
abbrev pub is_broken_off : Result ℕ RunFault → Bool
is_broken_off (Ok n) = false
is_broken_off (Err Header) = false
is_broken_off (Err Outside) = false
is_broken_off (Err (Frame n)) = false
is_broken_off (Err (Memory n)) = true
is_broken_off (Err Input) = true
is_broken_off (Err Output) = true

-- bytes that begin with others
abbrev pub BeginsWith : List ℕ → List ℕ → Type 0
BeginsWith bytes front = (more : List ℕ) × (bytes ≡ front ++ more)

-- two answers and what each run wrote: one and the same, where neither was broken off, and else one output begins the other; what a run that wasn't broken off wrote has each other at its front
pub record Agree (r s : Result ℕ RunFault) (new other : List ℕ) : Type 0 where
  pub one_answer : is_broken_off r ≡ false → is_broken_off s ≡ false → r ≡ s
  pub one_output : is_broken_off r ≡ false → is_broken_off s ≡ false → new ≡ other
  pub mine_whole : is_broken_off r ≡ false → BeginsWith new other
  pub theirs_whole : is_broken_off s ≡ false → BeginsWith other new
  pub one_begins : BeginsWith new other ⊎ BeginsWith other new

-- runs over one input, or over two that are alike, agree: result and output reveal nothing of what was hidden, except where a device or memory ended a run early
abbrev pub OneOutput : Type 0
OneOutput =
    (edit : Edits) (mine theirs old new other : List ℕ) (r s : Result ℕ RunFault) → (mine ≡ theirs) ⊎ Alike edit mine theirs
    → Writes r edit (Some mine) (Some old) (Some new) → Writes s edit (Some theirs) (Some old) (Some other) → Agree r s new other

-- where covers and fills come first, runs over inputs that differ only in what these cover agree: result and output reveal nothing of it
abbrev pub OneOutputCovered : Type 0
OneOutputCovered =
    (edit : Edits) (mine theirs old new other : List ℕ) (r s : Result ℕ RunFault) → covers_first edit.steps ≡ true → AlikeUncovered edit mine theirs
    → Writes r edit (Some mine) (Some old) (Some new) → Writes s edit (Some theirs) (Some old) (Some other) → Agree r s new other

-- and what was returned and written is right for each such input too
abbrev pub HidesCovered : Result ℕ RunFault → Edits → Option (List ℕ) → Option (List ℕ) → Option (List ℕ) → Type 0
HidesCovered result edit input old new = covers_first edit.steps ≡ true → IfSome input (λ mine. (theirs : List ℕ) → AlikeUncovered edit mine theirs → Writes result edit (Some theirs) old new)

-- runs with one result, which no device and no memory ended, over one input or over two that are alike, have seen frames of the same shapes: what is printed by these reveals nothing of what was hidden
abbrev pub OneSeen : Type 0
OneSeen =
    (edit : Edits) (mine theirs : List ℕ) (r s : Result ℕ RunFault) (seen other : Seen) → (mine ≡ theirs) ⊎ Alike edit mine theirs → is_broken_off r ≡ false → r ≡ s
    → RunSees r edit (Some mine) seen → RunSees s edit (Some theirs) other → SeeTheSame edit.steps seen other

-- the same where covers and fills come first, of inputs that differ only in what these cover
abbrev pub OneSeenCovered : Type 0
OneSeenCovered =
    (edit : Edits) (mine theirs : List ℕ) (r s : Result ℕ RunFault) (seen other : Seen) → covers_first edit.steps ≡ true → AlikeUncovered edit mine theirs → is_broken_off r ≡ false → r ≡ s
    → RunSees r edit (Some mine) seen → RunSees s edit (Some theirs) other → SeeTheSame edit.steps seen other
