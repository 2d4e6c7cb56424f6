-- What was read last of the input of a run, and in which frames an edit covers nothing.
use Rattle.std.specs.Prelude.{◌≡◌, ◌≢◌, ◌≤◌, ◌<◌, ◌+◌, ◌⊎◌, ◌==◌, ℕ, Bool, true, nat_lt, if◌then◌else◌, List, [], ◌∷◌, ◌++◌, reverse, Option, Some, None, IfSome, get_or, length}
use Rattle.std.specs.List.{slice_get}
use Rattle.std.specs.Option.{is_some, option_map}
use Rattle.texts.specs.Reading.{◌>>=◌}
use Rattle.frame_texts.specs.declared.rate.Rate.{Rate}
use Rattle.frame_edits.specs.declared.words.Edit.{Edit}
use Rattle.frame_requests.specs.Uncovered.{IsUncovered, rate_in, size_in}
use Rattle.frame_requests.specs.declared.seen.Known.{Known}
use Rattle.frame_requests.specs.declared.seen.Known.TheVariants.{All, One}
use Rattle.frame_requests.specs.declared.seen.Seen.{Seen}
use Rattle.frame_requests.specs.declared.seen.Shape.{Shape}
use Rattle.frame_requests.specs.declared.seen.Stretch.{Stretch}
use Rattle.frame_requests.specs.declared.seen.Uncovered.{Uncovered}

-- what the last line or head tells of frames, where one was read
abbrev pub shape_seen : Seen → Option Shape
shape_seen s = s.shape

-- the number of the picture whose head was read last; of a video it is 0
abbrev pub last_seen : Seen → ℕ
last_seen s = s.last

-- the rate of the video whose line was read, where it names one
abbrev pub rate_seen : Seen → Option Rate
rate_seen s = shape_seen s >>= rate_in

-- ---- frames of several shapes

-- the shape of a frame by its number: of shapes, the last first, each with the number of the first frame that has it
abbrev pub shape_at : List (ℕ × Shape) → ℕ → Option Shape
shape_at [] n = None
shape_at (s ∷ older) n = if nat_lt n s.0 then shape_at older n else Some s.1

-- one frame of this shape
abbrev pub frame_of : Shape → ℕ → Stretch
frame_of shape n = record { shape = shape; first = n; end = n + 1 }

-- the edit names the frame, and covers nothing in it
pub record IsUncoveredAt (shapes : List (ℕ × Shape)) (e : Edit) (n : ℕ) : Type 0 where
  pub shape : Shape
  pub there : shape_at shapes n ≡ Some shape
  pub uncovered : IsUncovered (frame_of shape n) e n

-- this is the first such frame, it is before the end, and has this size
pub record IsFirstUncovered (shapes : List (ℕ × Shape)) (e : Edit) (end : ℕ) (u : Uncovered) : Type 0 where
  pub there : IsUncoveredAt shapes e u.frame
  pub before : u.frame < end
  pub first : (n : ℕ) → IsUncoveredAt shapes e n → u.frame ≤ n
  pub size : size_in there.shape ≡ (u.width, u.height)

-- there is none before the end
abbrev pub NoneUncovered : List (ℕ × Shape) → Edit → ℕ → Type 0
NoneUncovered shapes e end = (n : ℕ) → n < end → IsUncoveredAt shapes e n → ⊥

-- the first such frame before the end, where there is one
abbrev pub FirstUncovered : List (ℕ × Shape) → Edit → ℕ → Option Uncovered → Type 0
FirstUncovered shapes e end (Some u) = IsFirstUncovered shapes e end u
FirstUncovered shapes e end None = NoneUncovered shapes e end

-- one of the edits covers nothing in a frame before the end
pub record IsAnyUncovered (shapes : List (ℕ × Shape)) (steps : List Edit) (end : ℕ) : Type 0 where
  pub at : ℕ
  pub edit : Edit
  pub is : slice_get steps at ≡ Some edit
  pub frame : ℕ
  pub before : frame < end
  pub uncovered : IsUncoveredAt shapes edit frame

-- ---- what is known of them

-- the first such frame of the edit of this number, where it is known whether there is one
abbrev pub known_of : Known → ℕ → Option (Option Uncovered)
known_of (All places) n = Some (get_or places.items n None)
known_of (One at found) n = if at == n then Some (Some found) else None

-- there is room for what is found of the edit of this number
abbrev pub HasPlace : Known → ℕ → Type 0
HasPlace (All places) n = n < length places.items
HasPlace (One at found) n = Unit {0}

-- one of the edits is known to have such a frame
pub record IsOneKnown (k : Known) (steps : List Edit) : Type 0 where
  pub at : ℕ
  pub edit : Edit
  pub is : slice_get steps at ≡ Some edit
  pub found : Uncovered
  pub known : known_of k at ≡ Some (Some found)

-- what is known of each edit is right up to an end of its own; where of one nothing is known, another has such a frame
pub record Knows (k : Known) (steps : List Edit) (shapes : List (ℕ × Shape)) (end : ℕ → ℕ) : Type 0 where
  pub right : (at : ℕ) (e : Edit) → slice_get steps at ≡ Some e → IfSome (known_of k at) (FirstUncovered shapes e (end at))
  pub other : (at : ℕ) → known_of k at ≡ None → IsOneKnown k steps

-- from some frame on all have the last shape
abbrev pub HasLastShape : List (ℕ × Shape) → Seen → Type 0
HasLastShape shapes s = (n : ℕ) → s.first ≤ n → shape_at shapes n ≡ s.shape

-- the number of the first frame of the last shape that was seen
abbrev pub last_number : List (ℕ × Shape) → ℕ
last_number [] = 0
last_number (s ∷ older) = s.0

-- the shapes that are kept for a report, in the order of their frames
abbrev pub kept_shapes : Seen → Option (List (ℕ × Shape))
kept_shapes s = option_map (λ shapes. shapes.items) s.shapes

-- the numbers of shapes, the last first, don't rise, and none is above this
abbrev pub AreUpTo : ℕ → List (ℕ × Shape) → Type 0
AreUpTo most [] = Unit {0}
AreUpTo most (s ∷ older) = (s.0 ≤ most) × AreUpTo s.0 older

-- by shapes that are kept each frame has its shape
pub record AreKept (shapes : List (ℕ × Shape)) (most : ℕ) (kept : List (ℕ × Shape)) : Type 0 where
  pub same : (n : ℕ) → shape_at (reverse kept) n ≡ shape_at shapes n
  pub in_order : AreUpTo most (reverse kept)

-- this shape was kept after others, or there was no memory for it
abbrev pub KeepsShape : ℕ × Shape → Option (List (ℕ × Shape)) → Option (List (ℕ × Shape)) → Type 0
KeepsShape s old None = Unit {0}
KeepsShape s None (Some new) = ⊥
KeepsShape s (Some old) (Some new) = new ≡ old ++ s ∷ []

-- frames of these shapes were seen, with these edits
pub record Sees (steps : List Edit) (shapes : List (ℕ × Shape)) (s : Seen) : Type 0 where
  pub last_shape : HasLastShape shapes s
  pub last : s.last ≡ last_number shapes
  pub within : s.first ≤ s.last
  pub knows : Knows s.known steps shapes (λ at. s.first)
  pub kept : IfSome (kept_shapes s) (AreKept shapes s.first)

-- two have seen frames of the same shapes
pub record SeeTheSame (steps : List Edit) (s t : Seen) : Type 0 where
  pub shapes : List (ℕ × Shape)
  pub mine : Sees steps shapes s
  pub theirs : Sees steps shapes t

-- there was memory to know it of the edit of this number
abbrev pub is_told : Seen → ℕ → Bool
is_told s n = is_some (known_of s.known n)

-- one of the edits covers nothing in a frame before the end, and it is told of it
pub record IsOtherTold (s : Seen) (steps : List Edit) (shapes : List (ℕ × Shape)) (end : ℕ) : Type 0 where
  pub any : IsAnyUncovered shapes steps end
  pub told : is_told s any.at ≡ true

-- ---- one frame more is known

-- what is known of an edit, after a frame was found for it
abbrev pub kept : Option (Option Uncovered) → Uncovered → Option (Option Uncovered)
kept None found = None
kept (Some None) found = Some (Some found)
kept (Some (Some first)) found = Some (Some first)

-- a frame was found for the edit of this number, and of others the same is known, or nothing
pub record Keeps (number : ℕ) (found : Uncovered) (old new : Known) : Type 0 where
  pub here : known_of new number ≡ kept (known_of old number) found
  pub others : ((n : ℕ) → n ≢ number → known_of new n ≡ known_of old n) ⊎ (new ≡ One number found)

-- the first frame of these that is such, with its size
pub record IsFirstFound (s : Stretch) (e : Edit) (u : Uncovered) : Type 0 where
  pub there : IsUncovered s e u.frame
  pub first : (n : ℕ) → IsUncovered s e n → u.frame ≤ n
  pub size : size_in s.shape ≡ (u.width, u.height)

abbrev pub FirstFound : Stretch → Edit → Option Uncovered → Type 0
FirstFound s e (Some u) = IsFirstFound s e u
FirstFound s e None = (n : ℕ) → IsUncovered s e n → ⊥

-- all frames of the stretch have its shape
abbrev pub HasItsShape : List (ℕ × Shape) → Stretch → Type 0
HasItsShape shapes s = (n : ℕ) → s.first ≤ n → n < s.end → shape_at shapes n ≡ Some s.shape

-- the frames of the last shape, of so many frames
abbrev pub stretch_of : Seen → ℕ → Option Stretch
stretch_of s count = option_map (λ shape. record { shape = shape; first = s.first; end = count }) s.shape

-- only this has changed
pub record SameButShapes (old new : Seen) : Type 0 where
  pub shape : new.shape ≡ old.shape
  pub first : new.first ≡ old.first
  pub last : new.last ≡ old.last
  pub known : new.known ≡ old.known

pub record SameButKnown (old new : Seen) : Type 0 where
  pub shapes : new.shapes ≡ old.shapes
  pub shape : new.shape ≡ old.shape
  pub first : new.first ≡ old.first
  pub last : new.last ≡ old.last
