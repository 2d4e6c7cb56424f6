-- The planes of a frame or a picture, and what is done to each.
use Rattle.std.specs.Prelude.{ℕ, ◌<◌, true, false, List, [], ◌∷◌, ◌++◌, Option, Some}
use Rattle.image_planes.specs.Changes.{Job, job_for}
use Rattle.image_planes.specs.Resized.{Resizing, resizing_for}
use Rattle.image_shape.specs.declared.window.Window.{Window}
use Rattle.image_commands.specs.declared.changes.Change.{Change}
use Rattle.image_commands.specs.declared.changes.Change.TheVariants.{Fill, Mosaic, Mean, Blur, Move, Flip}
use Rattle.image_planes.specs.declared.change.Step.{Step}
use Rattle.image_planes.specs.declared.target.Resize.{Resize}
use Rattle.image_planes.specs.declared.target.Resize.TheVariants.{Crop, Pad, Turn}
use Rattle.texts.specs.Reading.{◌>>=◌}
use Rattle.frame_formats.specs.Sampling.{at_corner, exact_samples, samples, window_under}
use Rattle.frame_formats.specs.Framings.{resize_under}
use Rattle.frame_formats.specs.Steps.{StartsWell, all_some, bytes_of, no_colour, opaque, step_by, value_in}
use Rattle.frame_texts.specs.Pixels.{pixel_size}
use Rattle.frame_texts.specs.Format.{sampling}
use Rattle.frame_texts.specs.declared.header.Chroma.{Chroma}
use Rattle.frame_texts.specs.declared.header.Chroma.TheVariants.{Mono, Small, Wide, Quarter, Whole, WholeAlpha}
use Rattle.frame_texts.specs.Pam.{tuple}
use Rattle.frame_texts.specs.declared.pam.Tuples.{Tuples}
use Rattle.frame_texts.specs.declared.picture.Kind.{Kind}
use Rattle.frame_texts.specs.declared.picture.Kind.TheVariants.{Plain, Pam}
use Rattle.frame_texts.specs.declared.picture.Picture.{Picture}
use Rattle.frame_formats.specs.declared.layers.Layer.{Layer}
use Rattle.frame_formats.specs.declared.layers.Layer.TheVariants.{Pixels, Samples, Alpha}
use Rattle.frame_texts.specs.declared.pixel.Pixel.{Pixel}
use Rattle.frame_edits.specs.declared.paint.Paint.{Paint}

abbrev pub kind_tuple : Kind → Tuples
kind_tuple (Plain colour) = tuple colour false
kind_tuple (Pam t) = t

-- a pixel of a picture: the high byte comes first where a sample has two
abbrev pub picture_pixel : Picture → Pixel
picture_pixel p = record { tuples = kind_tuple p.kind; greatest = p.greatest; high_first = true }

-- a picture is one plane
abbrev pub picture_layers : List Layer
picture_layers = Pixels ∷ []

-- after the plane of brightness there may be two planes of chroma samples, each for so many columns and rows of pixels, and one of how opaque each pixel is
abbrev pub sampled : ℕ × ℕ → List Layer
sampled share = Pixels ∷ Samples share.0 share.1 ∷ Samples share.0 share.1 ∷ []

abbrev pub video_layers : Chroma → List Layer
video_layers WholeAlpha = sampled (sampling WholeAlpha) ++ Alpha ∷ []
video_layers Mono = Pixels ∷ []
video_layers Small = sampled (sampling Small)
video_layers Wide = sampled (sampling Wide)
video_layers Quarter = sampled (sampling Quarter)
video_layers Whole = sampled (sampling Whole)

-- a sample stands for some pixels
abbrev pub StandsForPixels : Layer → Type 0
StandsForPixels Pixels = Unit {0}
StandsForPixels Alpha = Unit {0}
StandsForPixels (Samples x y) = (0 < x) × (0 < y)

-- the size of the plane in a frame of this size
abbrev pub layer_width : Layer → ℕ → ℕ
layer_width Pixels width = width
layer_width Alpha width = width
layer_width (Samples x y) width = samples width x

abbrev pub layer_height : Layer → ℕ → ℕ
layer_height Pixels height = height
layer_height Alpha height = height
layer_height (Samples x y) height = samples height y

-- ---- what is done to the planes of a frame of this size

-- a border leaves opaque pixels
abbrev pub opaque_resize : Pixel → Resize → Resize
opaque_resize pixel (Crop w) = Crop w
opaque_resize pixel (Pad left top width height value) = Pad left top width height (opaque pixel)
opaque_resize pixel (Turn quarter width height) = Turn quarter width height

-- the value of a filled pixel of the plane: it is opaque, and has no colour in chroma samples
abbrev pub value_on : Pixel → Layer → List ℕ → List ℕ
value_on pixel Pixels value = value
value_on pixel Alpha value = opaque pixel
value_on pixel (Samples x y) value = no_colour pixel

-- how many columns and rows of pixels share a pixel of the plane
abbrev pub across_of : Layer → ℕ
across_of Pixels = 1
across_of Alpha = 1
across_of (Samples x y) = x

abbrev pub down_of : Layer → ℕ
down_of Pixels = 1
down_of Alpha = 1
down_of (Samples x y) = y

abbrev pub window_on : Layer → ℕ → ℕ → Window → Option Window
window_on Pixels width height w = Some w
window_on Alpha width height w = Some w
window_on (Samples x y) width height w = window_under x y width height w

-- what a change of pixels is to the plane: means are those of its samples, and so are blurs
unfoldable pub change_on : Pixel → Layer → ℕ → ℕ → Change Paint → Option (Change (List ℕ))
change_on pixel layer width height (Fill w paint) = do
  value ← value_in pixel paint
  under ← window_on layer width height w
  Some (Fill under (value_on pixel layer value))
change_on pixel layer width height (Mosaic w tile_width tile_height) = do
  under ← window_on layer width height w
  wide ← exact_samples (across_of layer) tile_width
  high ← exact_samples (down_of layer) tile_height
  Some (Mosaic under wide high)
change_on pixel layer width height (Mean w tile_width tile_height bytes) = do
  under ← window_on layer width height w
  wide ← exact_samples (across_of layer) tile_width
  high ← exact_samples (down_of layer) tile_height
  Some (Mean under wide high (bytes_of pixel))
change_on pixel layer width height (Blur w across down bytes) = do
  under ← window_on layer width height w
  Some (Blur under (samples across (across_of layer)) (samples down (down_of layer)) (bytes_of pixel))
change_on pixel layer width height (Move w left top) = do
  under ← window_on layer width height w
  goal ← window_on layer width height (at_corner w left top)
  Some (Move under goal.left goal.top)
change_on pixel layer width height (Flip axes) = Some (Flip axes)

-- the plane under steps in pixels, or nothing where one has a colour, reaches outside the plane or doesn't fall on whole samples
abbrev pub job_on : Pixel → Layer → ℕ → ℕ → List (Step Paint) → Option Job
job_on pixel layer width height steps = all_some (step_by (change_on pixel layer width height)) steps >>= job_for (pixel_size pixel) (layer_width layer width) (layer_height layer height)

-- there is a plane, and the first step is one of the first plane, where there is a step
abbrev pub StartsOn : Pixel → List Layer → ℕ → ℕ → List (Step Paint) → Type 0
StartsOn pixel [] width height steps = ⊥
StartsOn pixel (layer ∷ layers) width height steps = StartsWell (step_by (change_on pixel layer width height)) steps

abbrev pub jobs_on : Pixel → List Layer → ℕ → ℕ → List (Step Paint) → Option (List Job)
jobs_on pixel layers width height steps = all_some (λ layer. job_on pixel layer width height steps) layers

-- what becomes of the plane's size, where this becomes of the frame's
abbrev pub resize_on : Pixel → Layer → ℕ → ℕ → Resize → Option Resize
resize_on pixel Pixels width height resize = Some resize
resize_on pixel Alpha width height resize = Some (opaque_resize pixel resize)
resize_on pixel (Samples x y) width height resize = resize_under pixel x y width height resize

-- the plane and what becomes of its size
abbrev pub resizing_on : Pixel → Layer → ℕ → ℕ → Resize → Option Resizing
resizing_on pixel layer width height resize = resize_on pixel layer width height resize >>= resizing_for (pixel_size pixel) (layer_width layer width) (layer_height layer height)

abbrev pub resizings_on : Pixel → List Layer → ℕ → ℕ → Resize → Option (List Resizing)
resizings_on pixel layers width height resize = all_some (λ layer. resizing_on pixel layer width height resize) layers
