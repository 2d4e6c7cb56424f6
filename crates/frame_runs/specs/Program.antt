-- What a run has written, by its result.
use Rattle.std.specs.Prelude.{◌≡◌, ◌≢◌, ◌==◌, ℕ, Bool, true, false, List, [], ◌∷◌, ◌++◌, ◌⊎◌, ◌<◌, length, ◌^◌, slice_index, Option, Some, None, Result, Ok, Err, IfSome, All}
use Rattle.std.specs.List.{AllByRecursion}
use Rattle.std.specs.Io.KnownBytes.{Appends, Consumes, Keeps}
use Rattle.devices.specs.Whole.{AppendsBeginning}
use Rattle.frame_runs.specs.Stream.{Piece, IsPiece, pieces_text, all_made}
use Rattle.frame_runs.specs.Video.{FrameHead}
use Rattle.frame_runs.specs.Pictures.{PictureHead, IsNoPicture}
use Rattle.frame_runs.specs.Passing.{IsNoFrame, IsNoNext, IsNotEditedNext, AtHead, Anything}
use Rattle.frame_texts.specs.Format.{format_of}
use Rattle.frame_edits.specs.Edits.{Edits}
use Rattle.frame_formats.specs.Recipe.{Recipe, video_recipe}
use Rattle.frame_texts.specs.declared.header.Format.{Format}
use Rattle.frame_formats.specs.declared.plans.PlanFault.{PlanFault}
use Rattle.frame_formats.specs.declared.plans.PlanFault.TheVariants.{Outside as NoPlan, Memory as NoMemory}
use Rattle.frame_requests.specs.declared.fault.RunFault.{RunFault}
use Rattle.frame_requests.specs.declared.fault.RunFault.TheVariants.{Header, Outside, Frame, Memory, Input, Output}

-- what an input is: a video with this line and recipe, or pictures
pub data Stream : Type 0 where
  video : List ℕ → Recipe → Stream
  pictures : Stream

-- by the first byte, which is a P before pictures
abbrev pub begins_picture : List ℕ → Bool
begins_picture bytes = slice_index bytes 0 == 80

abbrev pub are_pictures : Stream → Bool
are_pictures (video line recipe) = false
are_pictures pictures = true

-- the line is one of fewer than 256 bytes, and the edits are edits of a video with it
abbrev pub IsStream : Edits → Stream → Type 0
IsStream edit (video line recipe) = All (λ b. b ≢ 10) line × (length line < 256) × (video_recipe edit line ≡ Some recipe)
IsStream edit pictures = Unit {0}

-- what comes before the first frame, and what is written there
abbrev pub front : Stream → List ℕ
front (video line recipe) = line ++ 10 ∷ []
front pictures = []

abbrev pub made_front : Stream → List ℕ
made_front (video line recipe) = recipe.head
made_front pictures = []

-- which heads there are, with the recipe of each
abbrev pub heads_of : Edits → Stream → List ℕ → Recipe → Type 0
heads_of edit (video line recipe) = FrameHead recipe
heads_of edit pictures = PictureHead edit

-- a number counts one more than so many frames; pictures it counts all
abbrev pub IsCounted : Stream → ℕ → Type 0
IsCounted (video line recipe) count = count < 18446744073709551615
IsCounted pictures count = Unit {0}

-- what follows so many frames or pictures is not a complete one
abbrev pub IsNoMore : Edits → Stream → ℕ → List ℕ → Type 0
IsNoMore edit (video line recipe) count bytes = IsNoFrame recipe count bytes
IsNoMore edit pictures count bytes = IsNoNext edit count bytes

-- the input is a stream of so many frames or pictures, and the rest after them; the text is what the edits make of it
pub record Carries (edit : Edits) (count : ℕ) (input rest text : List ℕ) : Type 0 where
  pub stream : Stream
  pub is : IsStream edit stream
  pub kind : begins_picture input ≡ are_pictures stream
  pub within : count < 2 ^ 64
  pub pieces : List Piece
  pub are : AllByRecursion (IsPiece (heads_of edit stream)) pieces
  pub count_is : length pieces ≡ count
  pub read : input ≡ front stream ++ (pieces_text pieces ++ rest)
  pub made : text ≡ made_front stream ++ all_made 0 pieces

-- the same with an end of which this holds, and the text is written
pub record CarriesUpTo (edit : Edits) (stop : ℕ → List ℕ → Type 0) (count : ℕ) (input : List ℕ) (old new : Option (List ℕ)) : Type 0 where
  pub rest : List ℕ
  pub text : List ℕ
  pub carries : Carries edit count input rest text
  pub ends : stop count rest
  pub written : Appends old new text

-- some frames or pictures of the input are carried, and their text is written
abbrev pub CarriesSome : Edits → (ℕ → List ℕ → Type 0) → List ℕ → Option (List ℕ) → Option (List ℕ) → Type 0
CarriesSome edit stop input old new = (count : ℕ) × CarriesUpTo edit stop count input old new

-- the bytes don't begin with the line of a video that is read here
abbrev pub IsNoVideo : List ℕ → Type 0
IsNoVideo bytes = (line more : List ℕ) → All (λ b. b ≢ 10) line → length line < 256 → bytes ≡ line ++ 10 ∷ more → format_of line ≡ None

-- they begin with neither that nor the head of a picture
abbrev pub IsNoStream : Bool → List ℕ → Type 0
IsNoStream false bytes = IsNoVideo bytes
IsNoStream true bytes = IsNoPicture bytes

-- they begin with the line of a video that is read here
pub record BeginsVideo (bytes : List ℕ) : Type 0 where
  pub line : List ℕ
  pub more : List ℕ
  pub format : Format
  pub one_line : All (λ b. b ≢ 10) line
  pub short : length line < 256
  pub read : bytes ≡ line ++ 10 ∷ more
  pub named : format_of line ≡ Some format

-- and the edits don't suit it
pub record IsNotEdited (edit : Edits) (bytes : List ℕ) : Type 0 where
  pub begins : BeginsVideo bytes
  pub none : video_recipe edit begins.line ≡ None

-- before a video nothing is written; before a picture that the edits don't suit, those before it are
abbrev pub StopsOutside : Bool → Edits → List ℕ → Option (List ℕ) → Option (List ℕ) → Type 0
StopsOutside false edit input old new = Keeps old new × IsNotEdited edit input
StopsOutside true edit input old new = CarriesSome edit (IsNotEditedNext edit) input old new

-- out of memory for a video, whose line is there, nothing is written; for a picture, whose head is there, those before it are
abbrev pub StopsForMemory : Bool → ℕ → Edits → List ℕ → Option (List ℕ) → Option (List ℕ) → Type 0
StopsForMemory false count edit input old new = (count ≡ 0) × BeginsVideo input × Keeps old new
StopsForMemory true count edit input old new = CarriesUpTo edit AtHead count input old new

-- the fault of a plan after so many frames or pictures as one of the run
abbrev pub fault_of_plan : ℕ → PlanFault → RunFault
fault_of_plan count NoPlan = Outside
fault_of_plan count NoMemory = Memory count

-- what a run with this answer wrote, for the input, to a writer that held the old bytes and now holds the new
abbrev pub Writes : Result ℕ RunFault → Edits → Option (List ℕ) → Option (List ℕ) → Option (List ℕ) → Type 0
Writes (Ok n) edit input old new = IfSome input (λ bytes. (text : List ℕ) × (c : Carries edit n bytes [] text) × IsCounted c.stream n × Appends old new text)
Writes (Err (Frame n)) edit input old new = IfSome input (λ bytes. (rest : List ℕ) × (text : List ℕ) × (c : Carries edit n bytes rest text) × IsNoMore edit c.stream n rest × Appends old new text)
Writes (Err Input) edit input old new = Keeps old new ⊎ IfSome input (λ bytes. CarriesSome edit Anything bytes old new)
Writes (Err Output) edit input old new = IfSome input (λ bytes. (count : ℕ) × (rest : List ℕ) × (text : List ℕ) × Carries edit count bytes rest text × AppendsBeginning old new text)
Writes (Err Header) edit input old new = Keeps old new × IfSome input (λ bytes. IsNoStream (begins_picture bytes) bytes)
Writes (Err Outside) edit input old new = IfSome input (λ bytes. StopsOutside (begins_picture bytes) edit bytes old new)
Writes (Err (Memory n)) edit input old new = IfSome input (λ bytes. StopsForMemory (begins_picture bytes) n edit bytes old new)

-- a run that goes on after the front of the input has done this, for each input with that front
abbrev pub Follows : Result ℕ RunFault → Edits → List ℕ → Option (List ℕ) → Option (List ℕ) → Option (List ℕ) → Type 0
Follows result edit front left old new = (input : Option (List ℕ)) → Consumes input left front → Writes result edit input old new
