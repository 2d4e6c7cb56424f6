-- The covers that the boxes of a tracker's list become.
use Rattle.std.specs.Prelude.{◌≡◌, ℕ, ◌-◌, List, Option, Some, map, IsPermutation}
use Rattle.std.specs.List.Sorted.{IsNonDecreasingBy, IsStableByKey}
use Rattle.std.specs.Ordering.{nat_cmp}
use Rattle.image_commands.specs.declared.changes.Change.TheVariants.{Fill}
use Rattle.frame_texts.specs.declared.boxes.Tracked.{Tracked}
use Rattle.frame_texts.specs.declared.ranges.Range.{Range}
use Rattle.frame_texts.specs.declared.ranges.Range.TheVariants.{Frames, Times}
use Rattle.frame_texts.specs.Boxes.{window_of_box, each_box}
use Rattle.frame_edits.specs.Covers.{with_window}
use Rattle.frame_edits.specs.declared.box_covers.BoxStyle.{BoxStyle}
use Rattle.frame_edits.specs.declared.paint.Paint.TheVariants.{Black}
use Rattle.frame_edits.specs.declared.words.Scope.TheVariants.{Boxed}
use Rattle.frame_edits.specs.declared.words.Edit.{Edit}

-- what becomes of boxes where nothing is said: a cover, black and of no colour, with this margin
abbrev pub cover_style : Option ℕ → BoxStyle
cover_style margin = record { change = Fill (record { left = 0; top = 0; width = 0; height = 0 }) Black; margin = margin }

-- a box as the change of the pixels that it touches, in its frame alone
abbrev pub cover_of : BoxStyle → Tracked → Edit
cover_of style b = record { range = Frames (b.frame - 1) b.frame; change = with_window style.change (window_of_box b); scope = Boxed style.margin }

-- the first frame, or the first time, of an edit
abbrev pub first_in : Range → ℕ
first_in (Frames first end) = first
first_in (Times from to) = from

abbrev pub first_of : Edit → ℕ
first_of e = first_in e.range

-- the covers of all boxes of a text, in the order of their frames; those of one frame in that of their lines
pub record AreCovers (style : BoxStyle) (text : List ℕ) (covers : List Edit) : Type 0 where
  pub read : List Tracked
  pub are : each_box text ≡ Some read
  pub same : IsPermutation (map (cover_of style) read) covers
  pub stable : IsStableByKey first_of nat_cmp (map (cover_of style) read) covers
  pub in_order : IsNonDecreasingBy first_of covers
