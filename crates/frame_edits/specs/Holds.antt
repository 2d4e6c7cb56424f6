-- The boxes of tracks, which are kept for some frames before and after a track, and over its gaps.
use Rattle.std.specs.Prelude.{◌≡◌, ℕ, ◌+◌, ◌-◌, ◌&&◌, Bool, nat_lt, if◌then◌else◌, List, [], ◌∷◌, ◌++◌, Option, Some, None, length, min, IsPermutation}
use Rattle.std.specs.List.{flat_map, range_with_len, slice_get}
use Rattle.std.specs.List.Sorted.{IsNonDecreasingBy, IsStableByKey}
use Rattle.std.specs.Ordering.{nat_cmp}
use Rattle.frame_texts.specs.Boxes.{each_box}
use Rattle.frame_edits.specs.BoxCovers.{cover_of, first_of}
use Rattle.frame_texts.specs.declared.boxes.Tracked.{Tracked}
use Rattle.frame_edits.specs.declared.box_covers.BoxStyle.{BoxStyle}
use Rattle.frame_edits.specs.declared.words.Scope.TheVariants.{Boxed}
use Rattle.frame_texts.specs.declared.ranges.Range.TheVariants.{Frames}
use Rattle.frame_edits.specs.declared.words.Edit.{Edit}
use Rattle.frame_texts.specs.Tracks.{around, missing, goes_on_at, comes_at, AreByTracks, KeepTies}

-- ---- covers

-- the cover of a box that is kept for so many frames before its own and after it: frames count from 1, and those of a range from 0
abbrev pub kept : BoxStyle → ℕ → ℕ → Tracked → Edit
kept style before after b = record { range = Frames (b.frame - 1 - before) (min (b.frame + after) 18446744073709551615); change = (cover_of style b).change; scope = Boxed style.margin }

-- the cover of the box around two, in the frames between them
abbrev pub between : BoxStyle → Tracked → Tracked → Edit
between style a b = record { range = Frames a.frame (b.frame - 1); change = (cover_of style (around a b)).change; scope = Boxed style.margin }

-- the cover of a box that is kept so long on each side where its track doesn't go on there
abbrev pub kept_on : ℕ → Bool → ℕ
kept_on hold goes = if goes then 0 else hold

abbrev pub kept_by : BoxStyle → ℕ → Bool → Bool → Option Tracked → List Edit
kept_by style hold comes goes None = []
kept_by style hold comes goes (Some b) = kept style (kept_on hold comes) (kept_on hold goes) b ∷ []

-- the cover of the gap between two boxes of a track that goes on
abbrev pub filled : BoxStyle → Bool → Option Tracked → Option Tracked → List Edit
filled style goes None next = []
filled style goes (Some a) None = []
filled style goes (Some a) (Some b) = if goes && nat_lt 0 (missing a b) then between style a b ∷ [] else []

-- what the box at a place becomes, with the gap after it
abbrev pub held_at : BoxStyle → ℕ → List Tracked → ℕ → List Edit
held_at style hold bs at = kept_by style hold (comes_at hold bs at) (goes_on_at hold bs at) (slice_get bs at) ++ filled style (goes_on_at hold bs at) (slice_get bs at) (slice_get bs (at + 1))

-- the covers that boxes by their tracks become
abbrev pub held : BoxStyle → ℕ → List Tracked → List Edit
held style hold bs = flat_map (held_at style hold bs) (range_with_len 0 (length bs))

-- the covers of all boxes of a text that are held for so many frames, in the order of their frames; those that begin at one frame in that of their tracks
pub record AreHeld (style : BoxStyle) (text : List ℕ) (hold : ℕ) (covers : List Edit) : Type 0 where
  pub read : List Tracked
  pub are : each_box text ≡ Some read
  pub tracked : List Tracked
  pub same : IsPermutation read tracked
  pub by_tracks : AreByTracks tracked
  pub ties : KeepTies read tracked
  pub stable : IsStableByKey first_of nat_cmp (held style hold tracked) covers
  pub held : IsPermutation (held style hold tracked) covers
  pub in_order : IsNonDecreasingBy first_of covers
