-- The plan that is kept from one picture to the next, and what was read where there is no memory for another.
use Rattle.std.specs.Prelude.{◌≡◌, ◌≢◌, ◌≤◌, ◌⊎◌, ℕ, List, [], ◌∷◌, ◌++◌, length, Option, Some, None, IfSome, Result, Ok, Err}
use Rattle.std.specs.List.{AllByRecursion}
use Rattle.std.specs.Option.{option_map}
use Rattle.std.specs.Io.KnownBytes.{Consumes}
use Rattle.frame_edits.specs.Edits.{Edits}
use Rattle.frame_edits.specs.Covers.{one_pixel, video_unit}
use Rattle.frame_texts.specs.Format.{format_of}
use Rattle.frame_texts.specs.Rates.{rate_of}
use Rattle.frame_formats.specs.Planned.{recipe_of, plan_room, plan_other_room}
use Rattle.frame_formats.specs.Recipe.{buffers_len, picture_recipe}
use Rattle.frame_formats.specs.Steps.{StartsWell, step_in}
use Rattle.image_planes.specs.Scratch.{HasRoom}
use Rattle.frame_texts.specs.declared.header.Format.{Format}
use Rattle.frame_texts.specs.declared.picture.Picture.{Picture}
use Rattle.frame_runs.specs.Stream.{Piece, IsPiece, pieces_text}
use Rattle.frame_runs.specs.Pictures.{IsHead, PictureHead, PictureWithin}
use Rattle.frame_runs.specs.Passing.{Passed}
use Rattle.frame_runs.specs.declared.pictures.Kept.{Kept}
use Rattle.frame_requests.specs.declared.fault.RunFault.{RunFault}
use Rattle.frame_requests.specs.declared.fault.RunFault.TheVariants.{Header, Outside, Frame, Memory, Input, Output}

-- the plan is that of the edits for its picture, and its buffers have at most so many bytes; buffers of these capacities are enough for it, and so is its room for blurs
pub record IsKept (edit : Edits) (limit room_there other_there : ℕ) (k : Kept) : Type 0 where
  pub plan : picture_recipe edit k.picture ≡ Some (recipe_of k.plan)
  pub within : buffers_len (recipe_of k.plan) ≤ limit
  pub room : plan_room k.plan ≤ room_there
  pub other_room : plan_other_room k.plan ≤ other_there
  pub scratch : HasRoom (recipe_of k.plan).jobs k.scratch

abbrev pub kept_picture : Option Kept → Option Picture
kept_picture kept = option_map (λ k. k.picture) kept

abbrev pub picture_in : Result Kept RunFault → Result Picture RunFault
picture_in (Ok k) = Ok k.picture
picture_in (Err e) = Err e

-- there is no plan for the picture of this number: the edits don't suit it, or out of memory
abbrev pub HasNoPlan : Type 0 → ℕ → RunFault → Type 0
HasNoPlan none number Outside = none
HasNoPlan none number (Memory n) = n ≡ number
HasNoPlan none number Header = ⊥
HasNoPlan none number (Frame n) = ⊥
HasNoPlan none number Input = ⊥
HasNoPlan none number Output = ⊥

-- there is no edit, or the first is one of a video with this line, or of this picture
abbrev pub StartsVideo : Edits → List ℕ → Format → Type 0
StartsVideo edit line format = StartsWell (step_in (video_unit format) (rate_of line) format.width format.height) edit.steps

abbrev pub StartsPicture : Edits → Picture → Type 0
StartsPicture edit picture = StartsWell (step_in one_pixel None picture.width picture.height) edit.steps

-- out of memory only where no plan is kept for this picture, and the first edit is one of it
abbrev pub NeedsMemory : Edits → Option Picture → Picture → RunFault → Type 0
NeedsMemory edit before picture Outside = Unit {0}
NeedsMemory edit before picture (Memory n) = IfSome before (λ p. p ≢ picture) × StartsPicture edit picture
NeedsMemory edit before picture Header = Unit {0}
NeedsMemory edit before picture (Frame n) = Unit {0}
NeedsMemory edit before picture Input = Unit {0}
NeedsMemory edit before picture Output = Unit {0}

-- ---- what was read when there was no memory

-- exactly one head was read, and no plan is kept for its picture, of which the first edit is one
pub record NewHeadRead (edit : Edits) (before : Option Picture) (old new : Option (List ℕ)) : Type 0 where
  pub head : List ℕ
  pub picture : Picture
  pub is : IsHead head picture
  pub read : Consumes old new head
  pub other : IfSome before (λ p. p ≢ picture)
  pub starts : StartsPicture edit picture

abbrev pub PictureStops : {T : Type 0} → Result T RunFault → Edits → Option Picture → Option (List ℕ) → Option (List ℕ) → Type 0
PictureStops (Err (Memory n)) edit before old new = NewHeadRead edit before old new
PictureStops _ edit before old new = Unit {0}

abbrev pub last_piece : List Piece → Option Piece
last_piece [] = None
last_piece (p ∷ []) = Some p
last_piece (p ∷ (q ∷ ps)) = last_piece (q ∷ ps)

-- exactly so many pictures and one head more were read; it is none of the size and kind of the last of them, and the first edit is one of its picture
pub record NextHeadRead (edit : Edits) (count : ℕ) (old new : Option (List ℕ)) : Type 0 where
  pub pieces : List Piece
  pub are : AllByRecursion (IsPiece (PictureHead edit)) pieces
  pub count_is : length pieces ≡ count
  pub head : List ℕ
  pub picture : Picture
  pub is : IsHead head picture
  pub read : Consumes old new (pieces_text pieces ++ head)
  pub other : IfSome (last_piece pieces) (λ last. IsHead last.head picture → ⊥)
  pub starts : StartsPicture edit picture

-- exactly the line of a video was read, and no frame; the first edit is one of the video
pub record VideoLineRead (edit : Edits) (count : ℕ) (old new : Option (List ℕ)) : Type 0 where
  pub none : count ≡ 0
  pub line : List ℕ
  pub format : Format
  pub named : format_of line ≡ Some format
  pub read : Consumes old new (line ++ 10 ∷ [])
  pub starts : StartsVideo edit line format

-- out of memory after so many pictures: nothing was read of the cells of the next, or of any frame
abbrev pub PicturesStop : {T : Type 0} → Result T RunFault → Edits → Option (List ℕ) → Option (List ℕ) → Type 0
PicturesStop (Err (Memory n)) edit old new = NextHeadRead edit n old new
PicturesStop _ edit old new = Unit {0}

abbrev pub VideoStops : {T : Type 0} → Result T RunFault → Edits → Option (List ℕ) → Option (List ℕ) → Type 0
VideoStops (Err (Memory n)) edit old new = VideoLineRead edit n old new
VideoStops _ edit old new = Unit {0}

-- the same for each input with this front
abbrev pub VideoStopsAfter : {T : Type 0} → Result T RunFault → Edits → List ℕ → Option (List ℕ) → Option (List ℕ) → Type 0
VideoStopsAfter result edit front left new = (input : Option (List ℕ)) → Consumes input left front → VideoStops result edit input new

abbrev pub Stops : {T : Type 0} → Result T RunFault → Edits → Option (List ℕ) → Option (List ℕ) → Type 0
Stops (Err (Memory n)) edit old new = VideoLineRead edit n old new ⊎ NextHeadRead edit n old new
Stops _ edit old new = Unit {0}

-- ---- the loop over pictures

-- the picture of the last piece
abbrev pub LastIs : Option Picture → List Piece → Type 0
LastIs None pieces = pieces ≡ []
LastIs (Some p) pieces = (last : Piece) × (last_piece pieces ≡ Some last) × IsHead last.head p

pub record PassedLast (limit : ℕ) (edit : Edits) (before : Option Picture) (count : ℕ) (input left old new : Option (List ℕ)) : Type 0 where
  pub passed : Passed (PictureWithin limit edit) count input left old new
  pub last : LastIs before passed.pieces
