-- What a run has seen of its input: the shapes of the frames of a video, or of pictures.
use Rattle.std.specs.Prelude.{◌≡◌, ◌≢◌, ◌≤◌, ◌<◌, ◌+◌, ◌⊎◌, ℕ, false, All, List, [], ◌∷◌, ◌++◌, length, Option, Some, None, IfSome, Result, Ok, Err}
use Rattle.std.specs.List.{AllByRecursion, slice_get}
use Rattle.std.specs.Io.KnownBytes.{Consumes}
use Rattle.frame_edits.specs.Edits.{Edits}
use Rattle.frame_formats.specs.Recipe.{picture_recipe}
use Rattle.frame_texts.specs.Format.{format_of}
use Rattle.frame_texts.specs.Rates.{rate_of}
use Rattle.frame_texts.specs.declared.header.Format.{Format}
use Rattle.frame_texts.specs.declared.picture.Picture.{Picture}
use Rattle.frame_requests.specs.declared.fault.RunFault.{RunFault}
use Rattle.frame_requests.specs.declared.fault.RunFault.TheVariants.{Header, Outside, Frame, Memory, Input, Output}
use Rattle.frame_requests.specs.Seen.{Sees, last_seen, shape_at, shape_seen}
use Rattle.frame_requests.specs.declared.seen.Seen.{Seen}
use Rattle.frame_requests.specs.declared.seen.Shape.{Shape}
use Rattle.frame_requests.specs.declared.seen.Shape.TheVariants as shape
use Rattle.frame_runs.specs.Pictures.{IsHead, IsNoPicture, PictureHead}
use Rattle.frame_runs.specs.Program.{begins_picture}
use Rattle.frame_runs.specs.Stream.{Piece, IsPiece, pieces_text}

-- a video was read up to its frames, and all of these have the shape of its line, which was seen last
pub record SeesVideo (edit : Edits) (input : Option (List ℕ)) (s : Seen) : Type 0 where
  pub line : List ℕ
  pub format : Format
  pub one_line : All (λ b. b ≢ 10) line
  pub kind : begins_picture (line ++ 10 ∷ []) ≡ false
  pub named : format_of line ≡ Some format
  pub left : Option (List ℕ)
  pub read : Consumes input left (line ++ 10 ∷ [])
  pub seen : shape_seen s ≡ Some (shape.Video format (rate_of line))
  pub sees : Sees edit.steps ((0, shape.Video format (rate_of line)) ∷ []) s

-- the frame of this number has the shape of the picture of this piece
pub record HasShape (shapes : List (ℕ × Shape)) (n : ℕ) (p : Piece) : Type 0 where
  pub picture : Picture
  pub is : IsHead p.head picture
  pub there : shape_at shapes n ≡ Some (shape.Picture picture)

-- the number after that of the frame whose shape is the last
abbrev pub next_number : List (ℕ × Shape) → ℕ
next_number [] = 0
next_number (s ∷ older) = s.0 + 1

-- so many pictures were read, and these are the shapes of their frames
pub record ReadsPictures (edit : Edits) (count : ℕ) (input left : Option (List ℕ)) (shapes : List (ℕ × Shape)) : Type 0 where
  pub pieces : List Piece
  pub are : AllByRecursion (IsPiece (PictureHead edit)) pieces
  pub count_is : length pieces ≡ count
  pub read : Consumes input left (pieces_text pieces)
  pub have : (n : ℕ) (p : Piece) → slice_get pieces n ≡ Some p → HasShape shapes n p
  pub next : next_number shapes ≡ count

-- so many pictures were read, and the frame of each has its shape
pub record SeesPictures (edit : Edits) (count : ℕ) (input left : Option (List ℕ)) (s : Seen) : Type 0 where
  pub shapes : List (ℕ × Shape)
  pub reads : ReadsPictures edit count input left shapes
  pub sees : Sees edit.steps shapes s
  pub last : last_seen s ≤ count

-- the head of this picture was read
pub record ReadsHead (picture : Picture) (input : Option (List ℕ)) : Type 0 where
  pub head : List ℕ
  pub is : IsHead head picture
  pub left : Option (List ℕ)
  pub read : Consumes input left head

-- the head of a picture of this number was seen after these shapes
abbrev pub SeesNext : Edits → ℕ → List (ℕ × Shape) → Seen → Picture → Type 0
SeesNext edit number shapes s picture = Sees edit.steps ((number, shape.Picture picture) ∷ shapes) s

-- so many pictures were read, and the head of this one more, which was seen last
pub record SeesHead (edit : Edits) (count : ℕ) (picture : Picture) (input : Option (List ℕ)) (s : Seen) : Type 0 where
  pub left : Option (List ℕ)
  pub shapes : List (ℕ × Shape)
  pub reads : ReadsPictures edit count input left shapes
  pub within : count < 18446744073709551615
  pub next : ReadsHead picture left
  pub seen : shape_seen s ≡ Some (shape.Picture picture)
  pub sees : SeesNext edit count shapes s picture

-- the same of some picture
abbrev pub SeesOneMore : Edits → ℕ → Option (List ℕ) → Seen → Type 0
SeesOneMore edit count input s = (picture : Picture) × SeesHead edit count picture input s

-- of one that the edits don't suit
abbrev pub SeesNotEdited : Edits → ℕ → Option (List ℕ) → Seen → Type 0
SeesNotEdited edit count input s = (picture : Picture) × SeesHead edit count picture input s × (picture_recipe edit picture ≡ None)

-- so many pictures were read, and maybe the head of one more
abbrev pub SeesSoMany : Edits → ℕ → Option (List ℕ) → Seen → Type 0
SeesSoMany edit count input s = ((left : Option (List ℕ)) × SeesPictures edit count input left s) ⊎ SeesOneMore edit count input s

-- so many pictures were read, and no head is next, or a number counts no more
pub record SeesLast (edit : Edits) (count : ℕ) (input : Option (List ℕ)) (s : Seen) : Type 0 where
  pub left : Option (List ℕ)
  pub see : SeesPictures edit count input left s
  pub some : 0 < count
  pub none : (count ≡ 18446744073709551615) ⊎ IfSome left IsNoPicture

-- what a run over a video has seen
abbrev pub VideoSees : Result ℕ RunFault → Edits → Option (List ℕ) → Seen → Type 0
VideoSees (Err Header) edit input s = Sees edit.steps [] s
VideoSees (Err Input) edit input s = Sees edit.steps [] s ⊎ SeesVideo edit input s
VideoSees _ edit input s = SeesVideo edit input s

-- the same for each input with this front
abbrev pub VideoSeesAfter : Result ℕ RunFault → Edits → List ℕ → Option (List ℕ) → Seen → Type 0
VideoSeesAfter result edit front left s = (input : Option (List ℕ)) → Consumes input left front → VideoSees result edit input s

-- what a run over pictures has seen: all that were read, and maybe the head of one more, as that of a picture that is refused
abbrev pub PicturesSee : Result ℕ RunFault → Edits → Option (List ℕ) → Seen → Type 0
PicturesSee (Ok n) edit input s = (left : Option (List ℕ)) × SeesPictures edit n input left s × (0 < n)
PicturesSee (Err (Frame n)) edit input s = SeesLast edit n input s ⊎ SeesOneMore edit n input s
PicturesSee (Err (Memory n)) edit input s = SeesOneMore edit n input s
PicturesSee (Err Header) edit input s = Sees edit.steps [] s
PicturesSee (Err Outside) edit input s = (count : ℕ) × SeesNotEdited edit count input s
PicturesSee (Err Input) edit input s = (count : ℕ) × SeesSoMany edit count input s
PicturesSee (Err Output) edit input s = (count : ℕ) × SeesOneMore edit count input s

-- what a run has seen
abbrev pub RunSees : Result ℕ RunFault → Edits → Option (List ℕ) → Seen → Type 0
RunSees result edit input s = VideoSees result edit input s ⊎ PicturesSee result edit input s

-- ---- one picture more

-- the head of this picture, of this number, was read and seen last
pub record SeesIt (edit : Edits) (number : ℕ) (picture : Picture) (input : Option (List ℕ)) (old new : Seen) : Type 0 where
  pub next : ReadsHead picture input
  pub seen : shape_seen new ≡ Some (shape.Picture picture)
  pub sees : (shapes : List (ℕ × Shape)) → Sees edit.steps shapes old → last_seen old ≤ number → SeesNext edit number shapes new picture

-- the same of some picture
abbrev pub SeesSome : Edits → ℕ → Option (List ℕ) → Seen → Seen → Type 0
SeesSome edit number input old new = (picture : Picture) × SeesIt edit number picture input old new

-- no head of a picture is next, and nothing was seen
pub record SeesNoHead (number : ℕ) (input : Option (List ℕ)) (old new : Seen) : Type 0 where
  pub some : 0 < number
  pub none : IfSome input IsNoPicture
  pub same : new ≡ old

-- what a run over the picture of this number, which returns its size and kind, has seen: with a fault the head of the picture that is refused
abbrev pub SeesPicture : Result Picture RunFault → Edits → ℕ → Option (List ℕ) → Seen → Seen → Type 0
SeesPicture (Ok picture) edit number input old new = (shapes : List (ℕ × Shape)) → Sees edit.steps shapes old → last_seen old ≤ number → SeesNext edit number shapes new picture
SeesPicture (Err (Frame n)) edit number input old new = SeesNoHead number input old new ⊎ SeesSome edit number input old new
SeesPicture (Err (Memory n)) edit number input old new = SeesSome edit number input old new
SeesPicture (Err Outside) edit number input old new = (picture : Picture) × SeesIt edit number picture input old new × (picture_recipe edit picture ≡ None)
SeesPicture (Err Header) edit number input old new = new ≡ old
SeesPicture (Err Input) edit number input old new = (new ≡ old) ⊎ SeesSome edit number input old new
SeesPicture (Err Output) edit number input old new = SeesSome edit number input old new
