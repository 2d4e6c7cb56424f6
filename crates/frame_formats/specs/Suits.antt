-- Whether edits are those of a frame, each by itself.
use Rattle.std.specs.Prelude.{◌≡◌, ◌<◌, ℕ, ◌&&◌, All, Bool, true, false, nat_lt, List, length, take, Option, Some, None, IfSome}
use Rattle.std.specs.List.{list_all, slice_get}
use Rattle.std.specs.Option.{is_some}
use Rattle.image_planes.specs.Changes.{is_change_of}
use Rattle.image_planes.specs.Resized.{new_height}
use Rattle.image_commands.specs.declared.changes.Change.{Change}
use Rattle.image_planes.specs.declared.change.Step.{Step}
use Rattle.image_planes.specs.declared.target.Resize.{Resize}
use Rattle.frame_texts.specs.Format.{is_upright}
use Rattle.frame_texts.specs.Rates.{rate_of}
use Rattle.frame_texts.specs.declared.header.Format.{Format}
use Rattle.frame_texts.specs.declared.picture.Picture.{Picture}
use Rattle.frame_texts.specs.declared.pixel.Pixel.{Pixel}
use Rattle.frame_texts.specs.declared.rate.Rate.{Rate}
use Rattle.frame_edits.specs.Covers.{one_pixel, video_unit}
use Rattle.frame_edits.specs.Edits.{Edits}
use Rattle.frame_edits.specs.declared.covers.Unit.{Unit as Samples}
use Rattle.frame_edits.specs.declared.framing.Framing.{Framing}
use Rattle.frame_edits.specs.declared.paint.Paint.{Paint}
use Rattle.frame_edits.specs.declared.words.Edit.{Edit}
use Rattle.frame_formats.specs.Framings.{resize_for}
use Rattle.frame_formats.specs.Layers.{change_on, layer_height, layer_width, picture_layers, picture_pixel, resizing_on, video_layers}
use Rattle.frame_formats.specs.Steps.{step_in}
use Rattle.frame_formats.specs.declared.layers.Layer.{Layer}
use Rattle.frame_edits.specs.declared.unsuited.Unsuited.{Unsuited}
use Rattle.frame_edits.specs.declared.unsuited.Unsuited.TheVariants.{Edit as BadEdit, Size as BadSize}

-- a change of a plane is there, and valid for its size
abbrev pub is_valid : ℕ → ℕ → Option (Change (List ℕ)) → Bool
is_valid width height None = false
is_valid width height (Some change) = is_change_of width height change

-- a step is there, and its change is valid for the plane in a frame of this size
abbrev pub suits_plane : Pixel → Layer → ℕ → ℕ → Option (Step Paint) → Bool
suits_plane pixel layer width height None = false
suits_plane pixel layer width height (Some s) = is_valid (layer_width layer width) (layer_height layer height) (change_on pixel layer width height s.change)

-- an edit is one of each plane
abbrev pub suits_planes : Samples → Option Rate → Pixel → List Layer → ℕ → ℕ → Edit → Bool
suits_planes s rate pixel layers width height e = list_all (λ layer. suits_plane pixel layer width height (step_in s rate width height e)) layers

-- what becomes of the size is there, leaves a row, and is valid for each plane
abbrev pub size_suits_by : Pixel → List Layer → ℕ → ℕ → Option Resize → Bool
size_suits_by pixel layers width height None = false
size_suits_by pixel layers width height (Some resize) = nat_lt 0 (new_height resize) && list_all (λ layer. is_some (resizing_on pixel layer width height resize)) layers

abbrev pub size_suits : Bool → Pixel → List Layer → ℕ → ℕ → Option Framing → Bool
size_suits upright pixel layers width height None = true
size_suits upright pixel layers width height (Some framing) = size_suits_by pixel layers width height (resize_for upright pixel width height framing)

-- an edit is one of a video: a bad one reaches outside, or has no frame, or a value that the pixels lack
abbrev pub suits_video : Format → Option Rate → Edit → Bool
suits_video f rate = suits_planes (video_unit f) rate f.pixel (video_layers f.chroma) f.width f.height

-- and so is what becomes of the size
abbrev pub size_suits_video : Format → Option Framing → Bool
size_suits_video f = size_suits (is_upright f) f.pixel (video_layers f.chroma) f.width f.height

-- the same of a picture
abbrev pub suits_picture : Picture → Edit → Bool
suits_picture p = suits_planes one_pixel None (picture_pixel p) picture_layers p.width p.height

abbrev pub size_suits_picture : Picture → Option Framing → Bool
size_suits_picture p = size_suits true (picture_pixel p) picture_layers p.width p.height

-- no edit of a video is bad, or of a picture
abbrev pub suit_video : Edits → List ℕ → Format → Bool
suit_video e line f = list_all (suits_video f (rate_of line)) e.steps && size_suits_video f e.framing

abbrev pub suit_picture : Edits → Picture → Bool
suit_picture e p = list_all (suits_picture p) e.steps && size_suits_picture p e.framing

-- ---- which edit is bad

-- the edit of this number is bad, and those before it are not
pub record IsFirstBad (suits : Edit → Bool) (edits : List Edit) (at : ℕ) : Type 0 where
  pub there : at < length edits
  pub bad : IfSome (slice_get edits at) (λ e. suits e ≡ false)
  pub before : All (λ e. suits e ≡ true) (take at edits)

-- what is told as bad is so: the first bad edit, or what becomes of the size where no edit is
abbrev pub TellsBad : (Edit → Bool) → Bool → List Edit → Option Unsuited → Type 0
TellsBad suits size_suits edits (Some (BadEdit at)) = IsFirstBad suits edits at
TellsBad suits size_suits edits (Some BadSize) = (list_all suits edits ≡ true) × (size_suits ≡ false)
TellsBad suits size_suits edits None = (list_all suits edits ≡ true) × (size_suits ≡ true)
