-- What a cover is in a frame: a fill of whole samples, with a margin.
use Rattle.std.specs.Prelude.{◌≡◌, ℕ, ◌<◌, ◌≤◌, ◌+◌, ◌-◌, ◌*◌, ◌%◌, ◌==◌, ◌||◌, ◌&&◌, Bool, true, false, nat_le, if◌then◌else◌, Option, Some, None, min, max}
use Rattle.image_shape.specs.declared.window.Window.{Window}
use Rattle.image_commands.specs.declared.changes.Change.{Change}
use Rattle.image_commands.specs.declared.changes.Change.TheVariants.{Fill, Mosaic, Mean, Blur, Move, Flip}
use Rattle.image_commands.specs.declared.changes.Axes.TheVariants.{Rows, Both}
use Rattle.frame_texts.specs.Ranges.{frames_in}
use Rattle.frame_texts.specs.declared.rate.Rate.{Rate}
use Rattle.frame_edits.specs.Words.{no_window}
use Rattle.frame_edits.specs.declared.words.Edit.{Edit}
use Rattle.frame_edits.specs.declared.words.Scope.{Scope}
use Rattle.frame_edits.specs.declared.words.Scope.TheVariants.{Exact, Boxed}
use Rattle.frame_edits.specs.declared.covers.Unit.{Unit as Samples}
use Rattle.frame_texts.specs.Format.{sampling}
use Rattle.frame_texts.specs.declared.header.Chroma.{Chroma}
use Rattle.frame_texts.specs.declared.header.Format.{Format}
use Rattle.frame_edits.specs.declared.paint.Paint.{Paint}
use Rattle.frame_edits.specs.declared.paint.Paint.TheVariants.{Grey, Black, Around}
use Rattle.frame_texts.specs.Boxes.{Has}

abbrev pub unit : ℕ → ℕ → Samples
unit across down = record { across = across; down = down; interlaced = false }

-- a sample stands for some pixels
pub record IsUnit (s : Samples) : Type 0 where
  pub across : 0 < s.across
  pub down : 0 < s.down

-- how many columns and rows of pixels share a chroma sample
abbrev pub chroma_unit : Chroma → Samples
chroma_unit chroma = unit (sampling chroma).0 (sampling chroma).1

-- the same with the samples of both fields
abbrev pub video_unit : Format → Samples
video_unit f = record {
  across = (chroma_unit f.chroma).across;
  down = if f.interlaced then 2 * (chroma_unit f.chroma).down else (chroma_unit f.chroma).down;
  interlaced = f.interlaced;
}

-- a pixel of a picture has its colours itself
abbrev pub one_pixel : Samples
one_pixel = unit 1 1

-- how many pixels more are covered on each side: those that are named, or else two, and at least a sample
abbrev pub margin_of : Option ℕ → ℕ → ℕ
margin_of (Some margin) step = margin
margin_of None step = max 2 step

-- the greatest multiple of the step that isn't above a number, and the least that isn't below it
abbrev pub down_to : ℕ → ℕ → ℕ
down_to step at = at - at % step

abbrev pub up_to : ℕ → ℕ → ℕ
up_to step at = if at % step == 0 then at else at + (step - at % step)

-- where a cover begins and how many pixels it has, of so many in this direction: outwards to whole samples, within the frame. Without a pixel and a margin it has none. Its numbers count from so many pixels before the frame
abbrev pub cover_start : ℕ → ℕ → ℕ → ℕ → ℕ → ℕ
cover_start step margin before pixels start = if nat_le pixels (start - (margin + before)) then 0 else down_to step (start - (margin + before))

abbrev pub cover_count : ℕ → ℕ → ℕ → ℕ → ℕ → ℕ → ℕ
cover_count step margin before pixels start count = if nat_le pixels (start - (margin + before)) || count + margin == 0 then 0 else min pixels (up_to step (start + count + margin - before)) - cover_start step margin before pixels start

-- the window that a cover fills
abbrev pub window_from : ℕ → Samples → Option ℕ → ℕ → ℕ → Window → Window
window_from before s margin width height w = record {
  left = cover_start s.across (margin_of margin s.across) before width w.left;
  top = cover_start s.down (margin_of margin s.down) before height w.top;
  width = cover_count s.across (margin_of margin s.across) before width w.left w.width;
  height = cover_count s.down (margin_of margin s.down) before height w.top w.height;
}

abbrev pub cover_window : Samples → Option ℕ → ℕ → ℕ → Window → Window
cover_window = window_from 0

-- the same of a box, whose numbers count from 2 ^ 32 before the frame
abbrev pub box_window : Samples → Option ℕ → ℕ → ℕ → Window → Window
box_window = window_from 4294967296

-- a fill that covers, as the fill that it becomes
abbrev pub fill_in : Samples → ℕ → ℕ → Window → Paint → Change Paint
fill_in s width height w (Around (Some value) margin) = Fill (cover_window s margin width height w) (Grey value)
fill_in s width height w (Around None margin) = Fill (cover_window s margin width height w) Black
fill_in s width height w paint = Fill w paint

abbrev pub settled : Samples → ℕ → ℕ → Change Paint → Change Paint
settled s width height (Fill w paint) = fill_in s width height w paint
settled s width height change = change

-- the window of a change
abbrev pub window_of : Change Paint → Window
window_of (Fill w paint) = w
window_of (Mosaic w tile_width tile_height) = w
window_of (Mean w tile_width tile_height bytes) = w
window_of (Blur w across down bytes) = w
window_of (Move w left top) = w
window_of (Flip axes) = no_window

-- the same change of another window
abbrev pub with_window : Change Paint → Window → Change Paint
with_window (Fill old paint) w = Fill w paint
with_window (Mosaic old tile_width tile_height) w = Mosaic w tile_width tile_height
with_window (Mean old tile_width tile_height bytes) w = Mean w tile_width tile_height bytes
with_window (Blur old across down bytes) w = Blur w across down bytes
with_window (Move old left top) w = Move w left top
with_window (Flip axes) w = Flip axes

-- an edit of a frame of this size, as its change there
abbrev pub settled_by : Scope → Samples → ℕ → ℕ → Change Paint → Change Paint
settled_by Exact s width height change = settled s width height change
settled_by (Boxed margin) s width height change = with_window change (box_window s margin width height (window_of change))

-- the window that an edit changes in a frame of this size
abbrev pub drawn_by : Scope → Samples → ℕ → ℕ → Change Paint → Window
drawn_by Exact s width height change = window_of (settled s width height change)
drawn_by (Boxed margin) s width height change = box_window s margin width height (window_of change)

abbrev pub drawn : Samples → ℕ → ℕ → Edit → Window
drawn s width height e = drawn_by e.scope s width height e.change

-- in one direction, a pixel of the frame is at most so many pixels beside those of a rectangle, whose numbers count from so many pixels before the frame
abbrev pub IsNear : ℕ → ℕ → ℕ → ℕ → ℕ → Type 0
IsNear before margin start count x = (start ≤ x + before + margin) × (x + before < start + count + margin)

-- a window has each pixel of a frame of this size that is in a rectangle or in its margin, which is the same on all sides
abbrev pub HasMargin : ℕ → Samples → Option ℕ → ℕ → ℕ → Window → Window → Type 0
HasMargin before s margin width height box w = (x y : ℕ) → x < width → y < height → IsNear before (margin_of margin s.across) box.left box.width x → IsNear before (margin_of margin s.down) box.top box.height y → Has w x y

-- the same of a cover; the window of any other edit is the one that it names
abbrev pub KeepsAround : Samples → ℕ → ℕ → Window → Paint → Window → Type 0
KeepsAround s width height old (Around value margin) w = HasMargin 0 s margin width height old w
KeepsAround s width height old paint w = w ≡ old

abbrev pub KeepsExact : Samples → ℕ → ℕ → Change Paint → Window → Type 0
KeepsExact s width height (Fill old paint) w = KeepsAround s width height old paint w
KeepsExact s width height change w = w ≡ window_of change

-- the numbers of a box count from 2 ^ 32 before the frame
abbrev pub KeepsMarginBy : Scope → Samples → ℕ → ℕ → Change Paint → Window → Type 0
KeepsMarginBy Exact s width height change w = KeepsExact s width height change w
KeepsMarginBy (Boxed margin) s width height change w = HasMargin 4294967296 s margin width height (window_of change) w

-- the window of an edit has its margin, where it is a cover or a box
abbrev pub KeepsMargin : Samples → ℕ → ℕ → Edit → Window → Type 0
KeepsMargin s width height e w = KeepsMarginBy e.scope s width height e.change w

-- whether a change puts rows of one field where those of the other were: the last rows come first
abbrev pub turns_over : Change Paint → Bool
turns_over (Flip Rows) = true
turns_over (Flip Both) = true
turns_over _ = false

-- a cover whose window has no pixel: it is outside, or its margin and its size are 0
abbrev pub has_no_pixel : Window → Bool
has_no_pixel w = w.width == 0 || w.height == 0

abbrev pub nothing_filled : Samples → ℕ → ℕ → Window → Paint → Bool
nothing_filled s width height w (Around value margin) = has_no_pixel (cover_window s margin width height w)
nothing_filled s width height w _ = false

abbrev pub covers_nothing : Samples → ℕ → ℕ → Change Paint → Bool
covers_nothing s width height (Fill w paint) = nothing_filled s width height w paint
covers_nothing s width height _ = false

abbrev pub changes_nothing_by : Scope → Samples → ℕ → ℕ → Change Paint → Bool
changes_nothing_by Exact s width height change = covers_nothing s width height change
changes_nothing_by (Boxed margin) s width height change = has_no_pixel (box_window s margin width height (window_of change))

-- an edit that changes no pixel of a frame of this size: a cover, or a box, that is outside
abbrev pub changes_nothing : Samples → ℕ → ℕ → Edit → Bool
changes_nothing s width height e = changes_nothing_by e.scope s width height e.change

-- the frames of an edit: its range has some at this rate, and it doesn't exchange the fields of an interlaced video
abbrev pub frames_for : Samples → Option Rate → Edit → Option (ℕ × ℕ)
frames_for s rate e = if s.interlaced && turns_over e.change then None else frames_in rate e.range
