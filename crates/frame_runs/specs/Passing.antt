-- What was read and written of the pieces of a stream.
use Rattle.std.specs.Prelude.{◌≡◌, ◌≢◌, ◌⊎◌, ℕ, ◌<◌, ◌≤◌, ◌^◌, List, [], ◌∷◌, ◌++◌, length, take, codes, Option, Result, Ok, Err, IfSome}
use Rattle.std.specs.List.{AllByRecursion}
use Rattle.std.specs.Io.KnownBytes.{Consumes, Appends, Keeps, IsAtEnd}
use Rattle.devices.specs.Whole.{AppendsBeginning, Gave, GaveFewer}
use Rattle.frame_edits.specs.Edits.{Edits}
use Rattle.frame_formats.specs.Recipe.{Recipe}
use Rattle.frame_runs.specs.Stream.{Piece, IsPiece, piece_text, pieces_text, made_text, all_made}
use Rattle.frame_runs.specs.Video.{AreParameters, FrameHead, frame_line}
use Rattle.frame_runs.specs.Pictures.{PictureHead, PictureWithin, BeginsPicture, IsNoPicture, IsPictureNotEdited}
use Rattle.frame_texts.specs.declared.picture.Picture.{Picture}
use Rattle.frame_runs.specs.declared.frames.Begin.{Begin}
use Rattle.frame_runs.specs.declared.frames.Begin.TheVariants.{Whole, Open, End as AtEnd, Other as NoWord}
use Rattle.frame_runs.specs.declared.frames.Found.{Found}
use Rattle.frame_runs.specs.declared.frames.Found.TheVariants.{Frame, End, Other}
use Rattle.frame_requests.specs.declared.fault.RunFault.{RunFault}
use Rattle.frame_requests.specs.declared.fault.RunFault.TheVariants.{Header, Outside, Frame as BadFrame, Memory, Input, Output}

-- the bytes are some, and don't begin with the line of a frame
pub record IsNoFrameLine (bytes : List ℕ) : Type 0 where
  pub some : bytes ≢ []
  pub other : (parameters more : List ℕ) → AreParameters parameters → bytes ≡ frame_line parameters ++ more → ⊥

-- what was found in the place of the first six bytes of a frame's line
abbrev pub IsWord : Begin → List ℕ → Option (List ℕ) → Option (List ℕ) → Type 0
IsWord Whole word old new = (word ≡ codes "FRAME" ++ 10 ∷ []) × Consumes old new word
IsWord Open word old new = (word ≡ codes "FRAME" ++ 32 ∷ []) × Consumes old new word
IsWord AtEnd word old new = Consumes old new [] × IsAtEnd new
IsWord NoWord word old new = IfSome old IsNoFrameLine

abbrev pub WordIs : Result Begin RunFault → List ℕ → Option (List ℕ) → Option (List ℕ) → Type 0
WordIs (Ok begin) word old new = IsWord begin word old new
WordIs (Err e) word old new = (e ≡ Input) × GaveFewer 6 old new

-- the line of a frame was read into the front of a buffer
pub record LineRead (len : ℕ) (line : List ℕ) (old new : Option (List ℕ)) : Type 0 where
  pub parameters : List ℕ
  pub are : AreParameters parameters
  pub within : len ≤ length line
  pub line_is : take len line ≡ frame_line parameters
  pub read : Consumes old new (take len line)

-- what was found in the place of the line of a frame
abbrev pub IsLineFound : Found → List ℕ → Option (List ℕ) → Option (List ℕ) → Type 0
IsLineFound (Frame len) line old new = LineRead len line old new
IsLineFound End line old new = Consumes old new [] × IsAtEnd new
IsLineFound Other line old new = IfSome old IsNoFrameLine

-- the reader failed before the line of a frame, or within it
abbrev pub LineCut : Option (List ℕ) → Option (List ℕ) → Type 0
LineCut old new = Gave (λ bytes. (bytes ≡ []) ⊎ IsNoFrameLine bytes) old new

abbrev pub LineIs : Result Found RunFault → List ℕ → Option (List ℕ) → Option (List ℕ) → Type 0
LineIs (Ok found) line old new = IsLineFound found line old new
LineIs (Err e) line old new = (e ≡ Input) × LineCut old new

-- there are fewer cells after a head than it has
pub record IsCut (heads : List ℕ → Recipe → Type 0) (bytes : List ℕ) : Type 0 where
  pub head : List ℕ
  pub cells : List ℕ
  pub recipe : Recipe
  pub is : heads head recipe
  pub short : length cells < recipe.size
  pub read : bytes ≡ head ++ cells

-- no frame follows so many: there is no line of one, or its cells are cut; or a number counts no more frames
abbrev pub IsNoFrame : Recipe → ℕ → List ℕ → Type 0
IsNoFrame video count bytes = (count ≡ 18446744073709551615) ⊎ (IsNoFrameLine bytes ⊎ IsCut (FrameHead video) bytes)

-- something follows so many pictures, and it isn't one: there is no head, though one is at the front, or its cells are cut; or a number counts no more pictures
pub record IsNoNext (edit : Edits) (count : ℕ) (bytes : List ℕ) : Type 0 where
  pub some : bytes ≢ []
  pub none : (count ≡ 18446744073709551615) ⊎ (((0 < count) × IsNoPicture bytes) ⊎ IsCut (PictureHead edit) bytes)

-- so many pictures that a number counts one more, and then one that the edits don't suit
abbrev pub IsNotEditedNext : Edits → ℕ → List ℕ → Type 0
IsNotEditedNext edit count bytes = (count < 18446744073709551615) × IsPictureNotEdited edit bytes

-- so many pieces were read, and what they become was written, and nothing else
pub record Passed (heads : List ℕ → Recipe → Type 0) (count : ℕ) (input left old new : Option (List ℕ)) : Type 0 where
  pub within : count < 2 ^ 64
  pub pieces : List Piece
  pub are : AllByRecursion (IsPiece heads) pieces
  pub count_is : length pieces ≡ count
  pub read : Consumes input left (pieces_text pieces)
  pub written : Appends old new (all_made 0 pieces)

-- so many pieces were read and written, and this holds of their number and of what is left
pub record PassedUpTo (heads : List ℕ → Recipe → Type 0) (stop : ℕ → List ℕ → Type 0) (count : ℕ) (input old new : Option (List ℕ)) : Type 0 where
  pub left : Option (List ℕ)
  pub passed : Passed heads count input left old new
  pub ends : IfSome left (stop count)

-- the same of some number of pieces
pub record PassedSome (heads : List ℕ → Recipe → Type 0) (stop : ℕ → List ℕ → Type 0) (input old new : Option (List ℕ)) : Type 0 where
  pub count : ℕ
  pub up_to : PassedUpTo heads stop count input old new

-- some pieces were read and written, and a beginning of what the next becomes
pub record PassedPart (heads : List ℕ → Recipe → Type 0) (input old new : Option (List ℕ)) : Type 0 where
  pub count : ℕ
  pub within : count < 18446744073709551615
  pub left : Option (List ℕ)
  pub held : Option (List ℕ)
  pub piece : Piece
  pub after : Option (List ℕ)
  pub passed : Passed heads count input left old held
  pub is : IsPiece heads piece
  pub read : Consumes left after (piece_text piece)
  pub written : AppendsBeginning held new (made_text count piece)

-- ---- the cells after a head

-- fewer cells than a head has
pub record CellsCut (size : ℕ) (old new : Option (List ℕ)) : Type 0 where
  pub cells : List ℕ
  pub short : length cells < size
  pub read : Consumes old new cells
  pub end : IsAtEnd new

-- cells were read, and this happened to the text of what they become with their head
pub record CellsPassed (sent : List ℕ → Type 0) (recipe : Recipe) (number : ℕ) (old new : Option (List ℕ)) : Type 0 where
  pub cells : List ℕ
  pub sized : length cells ≡ recipe.size
  pub read : Consumes old new cells
  pub written : sent (recipe.head ++ recipe.frame number cells)

abbrev pub PassesCells : Result (Unit {0}) RunFault → Recipe → ℕ → Option (List ℕ) → Option (List ℕ) → Option (List ℕ) → Option (List ℕ) → Type 0
PassesCells (Ok x) recipe number input left old new = CellsPassed (Appends old new) recipe number input left
PassesCells (Err (BadFrame n)) recipe number input left old new = (n ≡ number) × CellsCut recipe.size input left × (new ≡ old)
PassesCells (Err Output) recipe number input left old new = CellsPassed (AppendsBeginning old new) recipe number input left
PassesCells (Err Input) recipe number input left old new = GaveFewer recipe.size input left × (new ≡ old)
PassesCells (Err Header) recipe number input left old new = ⊥
PassesCells (Err Outside) recipe number input left old new = ⊥
PassesCells (Err (Memory n)) recipe number input left old new = ⊥

-- ---- pieces by the answer of a run

-- nothing is said of what is left
abbrev pub Anything : ℕ → List ℕ → Type 0
Anything count bytes = Unit {0}

-- before the next picture, whose head is there
abbrev pub AtHead : ℕ → List ℕ → Type 0
AtHead count bytes = BeginsPicture bytes

-- what a run over the frames of a video has read and written, by its answer
abbrev pub PassesFrames : Result ℕ RunFault → Recipe → Option (List ℕ) → Option (List ℕ) → Option (List ℕ) → Option (List ℕ) → Type 0
PassesFrames (Ok n) video input left old new = (n < 18446744073709551615) × Passed (FrameHead video) n input left old new × IsAtEnd left
PassesFrames (Err (BadFrame n)) video input left old new = PassedUpTo (FrameHead video) (IsNoFrame video) n input old new
PassesFrames (Err Input) video input left old new = PassedSome (FrameHead video) Anything input old new
PassesFrames (Err Output) video input left old new = PassedPart (FrameHead video) input old new
PassesFrames (Err Header) video input left old new = ⊥
PassesFrames (Err Outside) video input left old new = ⊥
PassesFrames (Err (Memory n)) video input left old new = ⊥

-- what a run over pictures has, whose buffers have at most so many bytes
abbrev pub PassesPictures : Result ℕ RunFault → ℕ → Edits → Option (List ℕ) → Option (List ℕ) → Option (List ℕ) → Option (List ℕ) → Type 0
PassesPictures (Ok n) limit edit input left old new = Passed (PictureWithin limit edit) n input left old new × IsAtEnd left
PassesPictures (Err (BadFrame n)) limit edit input left old new = PassedUpTo (PictureWithin limit edit) (IsNoNext edit) n input old new
PassesPictures (Err Input) limit edit input left old new = PassedSome (PictureWithin limit edit) Anything input old new
PassesPictures (Err Output) limit edit input left old new = PassedPart (PictureWithin limit edit) input old new
PassesPictures (Err Header) limit edit input left old new = Keeps old new × IfSome input IsNoPicture
PassesPictures (Err Outside) limit edit input left old new = PassedSome (PictureWithin limit edit) (IsNotEditedNext edit) input old new
PassesPictures (Err (Memory n)) limit edit input left old new = PassedUpTo (PictureWithin limit edit) AtHead n input old new

-- the reader failed within a picture, whose first letter was read
abbrev pub PictureCut : Edits → Option (List ℕ) → Option (List ℕ) → Type 0
PictureCut edit old new = Gave (λ bytes. (bytes ≢ []) × (IsNoPicture bytes ⊎ IsCut (PictureHead edit) bytes)) old new

-- what a run over the picture of this number has, which returns its size and kind
abbrev pub PassesPicture : Result Picture RunFault → ℕ → Edits → ℕ → Option (List ℕ) → Option (List ℕ) → Option (List ℕ) → Option (List ℕ) → Type 0
PassesPicture (Ok picture) limit edit number input left old new = (p : Piece) × (is : IsPiece (PictureWithin limit edit) p) × (is.0.is.picture ≡ picture) × Consumes input left (piece_text p) × Appends old new (made_text number p)
PassesPicture (Err (BadFrame n)) limit edit number input left old new = (n ≡ number) × IfSome input (IsNoNext edit number) × (new ≡ old)
PassesPicture (Err Output) limit edit number input left old new = (p : Piece) × IsPiece (PictureWithin limit edit) p × Consumes input left (piece_text p) × AppendsBeginning old new (made_text number p)
PassesPicture (Err Header) limit edit number input left old new = (number ≡ 0) × IfSome input IsNoPicture × (new ≡ old)
PassesPicture (Err Outside) limit edit number input left old new = IfSome input (IsPictureNotEdited edit) × (new ≡ old)
PassesPicture (Err (Memory n)) limit edit number input left old new = (n ≡ number) × IfSome input BeginsPicture × (new ≡ old)
PassesPicture (Err Input) limit edit number input left old new = PictureCut edit input left × (new ≡ old)
