-- Covers that cover nothing in a frame that they are for.
use Rattle.std.specs.Prelude.{◌≡◌, ◌≤◌, ◌<◌, ℕ, Bool, true, Option, Some, None}
use Rattle.frame_edits.specs.Covers.{KeepsMargin, changes_nothing, drawn, one_pixel, video_unit}
use Rattle.frame_texts.specs.Ranges.{frames_in}
use Rattle.frame_texts.specs.declared.rate.Rate.{Rate}
use Rattle.frame_edits.specs.declared.words.Edit.{Edit}
use Rattle.image_shape.specs.declared.window.Window.{Window}
use Rattle.frame_requests.specs.declared.seen.Shape.{Shape}
use Rattle.frame_requests.specs.declared.seen.Shape.TheVariants.{Video, Picture}
use Rattle.frame_requests.specs.declared.seen.Stretch.{Stretch}

abbrev pub rate_in : Shape → Option Rate
rate_in (Video format rate) = rate
rate_in (Picture picture) = None

-- the width and the height of a frame of this shape
abbrev pub size_in : Shape → ℕ × ℕ
size_in (Video format rate) = (format.width, format.height)
size_in (Picture picture) = (picture.width, picture.height)

-- the rectangle that an edit changes in a frame of this shape
abbrev pub drawn_in : Shape → Edit → Window
drawn_in (Video format rate) e = drawn (video_unit format) format.width format.height e
drawn_in (Picture picture) e = drawn one_pixel picture.width picture.height e

-- and it has each pixel of a box's margin there
abbrev pub KeepsMarginIn : Shape → Edit → Window → Type 0
KeepsMarginIn (Video format rate) e w = KeepsMargin (video_unit format) format.width format.height e w
KeepsMarginIn (Picture picture) e w = KeepsMargin one_pixel picture.width picture.height e w

-- a cover or a box that has no pixel of a frame of this shape
abbrev pub is_empty_in : Shape → Edit → Bool
is_empty_in (Video format rate) e = changes_nothing (video_unit format) format.width format.height e
is_empty_in (Picture picture) e = changes_nothing one_pixel picture.width picture.height e

-- the frame is one of these that the edit names, and the edit covers nothing in it
pub record IsUncovered (s : Stretch) (e : Edit) (n : ℕ) : Type 0 where
  pub empty : is_empty_in s.shape e ≡ true
  pub first : ℕ
  pub end : ℕ
  pub frames : frames_in (rate_in s.shape) e.range ≡ Some (first, end)
  pub from : first ≤ n
  pub before : n < end
  pub here : s.first ≤ n
  pub still : n < s.end
