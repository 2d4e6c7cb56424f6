-- The tracks that boxes are of, and the box around two.
use Rattle.std.specs.Prelude.{◌≡◌, ◌≤◌, ℕ, ◌+◌, ◌-◌, ◌/◌, ◌%◌, ◌&&◌, ◌||◌, ◌==◌, Bool, false, nat_lt, nat_le, if◌then◌else◌, List, Option, Some, None, length, max}
use Rattle.std.specs.List.{AllAdjacentBelow, filter, slice_get}
use Rattle.std.specs.List.Sorted.{IsNonDecreasingBy}
use Rattle.frame_texts.specs.Boxes.{units_of, place_of, Touches}
use Rattle.frame_texts.specs.declared.boxes.Decimal.{Decimal}
use Rattle.frame_texts.specs.declared.boxes.Tracked.{Tracked}

-- ---- tracks

-- the track that a box is of, from 1; 0 where its identity has a sign or a fraction, and it is of none
abbrev pub track_of : Tracked → ℕ
track_of b = if b.id.minus || nat_lt 0 b.id.part then 0 else b.id.whole + 1

-- how many frames are between two boxes
abbrev pub missing : Tracked → Tracked → ℕ
missing a b = b.frame - a.frame - 1

-- whether the second box goes on where the first ends: both are of one track, and at most so many frames are between them
abbrev pub continues : ℕ → Tracked → Tracked → Bool
continues hold a b = nat_lt 0 (track_of a) && (track_of a == track_of b && (nat_lt a.frame b.frame && nat_le (missing a b) hold))

-- boxes by their tracks, and those of one track by their frames
pub record AreByTracks (bs : List Tracked) : Type 0 where
  pub tracks : IsNonDecreasingBy track_of bs
  pub frames : AllAdjacentBelow (λ a b. track_of a ≡ track_of b → a.frame ≤ b.frame) bs (length bs)

-- whether two boxes are of one track and of one frame
abbrev pub is_beside : Tracked → Tracked → Bool
is_beside a b = track_of a == track_of b && a.frame == b.frame

-- boxes of one track and one frame stay in their order
abbrev pub KeepTies : List Tracked → List Tracked → Type 0
KeepTies old new = (b : Tracked) → filter (is_beside b) new ≡ filter (is_beside b) old

-- whether a place has a box that goes on at the next place
abbrev pub both_go_on : ℕ → Option Tracked → Option Tracked → Bool
both_go_on hold None b = false
both_go_on hold (Some a) None = false
both_go_on hold (Some a) (Some b) = continues hold a b

abbrev pub goes_on_at : ℕ → List Tracked → ℕ → Bool
goes_on_at hold bs at = both_go_on hold (slice_get bs at) (slice_get bs (at + 1))

-- and whether its own box goes on where that of the place before ends
abbrev pub comes_at : ℕ → List Tracked → ℕ → Bool
comes_at hold bs at = nat_lt 0 at && goes_on_at hold bs (at - 1)

-- the size of so many units
abbrev pub size_by : ℕ → Decimal
size_by units = record { minus = false; whole = units / 100000000000000000000; part = units % 100000000000000000000 }

-- in one direction: where the first of two sides begins, and how far it is from there to the end of both
abbrev pub first_start : Decimal → Decimal → Decimal
first_start a b = if nat_le (place_of a) (place_of b) then a else b

abbrev pub both_extent : Decimal → Decimal → Decimal → Decimal → Decimal
both_extent a long b wide = size_by (max (place_of a + units_of long) (place_of b + units_of wide) - place_of (first_start a b))

-- the smallest box around two
abbrev pub around : Tracked → Tracked → Tracked
around a b = record {
  frame = a.frame;
  id = a.id;
  left = first_start a.left b.left;
  top = first_start a.top b.top;
  width = both_extent a.left a.width b.left b.width;
  height = both_extent a.top a.height b.top b.height;
}

-- it has each pixel that one of them touches
abbrev pub HasBoth : Tracked → Tracked → Tracked → Type 0
HasBoth a b c = (x y : ℕ) → (Touches a x y → Touches c x y) × (Touches b x y → Touches c x y)
