-- The change of the size of frames, as that of each plane.
use Rattle.std.specs.Prelude.{ℕ, ◌+◌, ◌==◌, ◌^◌, Bool, nat_lt, if◌then◌else◌, Option, Some, None}
use Rattle.texts.specs.Reading.{◌>>=◌}
use Rattle.image_planes.specs.declared.target.Resize.{Resize}
use Rattle.image_planes.specs.declared.target.Resize.TheVariants.{Crop, Pad, Turn}
use Rattle.frame_formats.specs.Steps.{grey_of, no_colour}
use Rattle.frame_texts.specs.declared.pixel.Pixel.{Pixel}
use Rattle.frame_edits.specs.declared.framing.Framing.{Framing}
use Rattle.frame_edits.specs.declared.framing.Framing.TheVariants.{Crop as CropPixels, Pad as PadPixels, Turn as TurnPixels}
use Rattle.frame_formats.specs.Sampling.{samples, window_under}

-- ---- frames of another size

-- how many pixels there are with so many before and after, below 2 ^ 32
abbrev pub padded_size : ℕ → ℕ → ℕ → Option ℕ
padded_size before pixels behind = if nat_lt (before + pixels + behind) (2 ^ 32) then Some (before + pixels + behind) else None

-- what becomes of the size of the plane of brightness: a quarter turn needs rows that can be columns
unfoldable pub resize_for : Bool → Pixel → ℕ → ℕ → Framing → Option Resize
resize_for upright pixel width height (CropPixels w) = Some (Crop w)
resize_for upright pixel width height (PadPixels left top right bottom value) = do
  wide ← padded_size left width right
  high ← padded_size top height bottom
  bytes ← grey_of pixel value
  Some (Pad left top wide high bytes)
resize_for upright pixel width height (TurnPixels quarter) = if upright then Some (Turn quarter height width) else None

-- the same of a plane of chroma samples: a border has no colour, and as many columns of pixels share a sample as rows do that are turned
unfoldable pub resize_under : Pixel → ℕ → ℕ → ℕ → ℕ → Resize → Option Resize
resize_under pixel x y width height (Crop w) = do
  under ← window_under x y width height w
  Some (Crop under)
resize_under pixel x y width height (Pad left top wide high value) = do
  under ← window_under x y wide high (record { left = left; top = top; width = width; height = height })
  Some (Pad under.left under.top (samples wide x) (samples high y) (no_colour pixel))
resize_under pixel x y width height (Turn quarter wide high) = if x == y then Some (Turn quarter (samples wide x) (samples high y)) else None
