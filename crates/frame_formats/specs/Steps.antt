-- What is done to the pixels of frames, as what is done to each plane.
use Rattle.std.specs.Prelude.{◌≢◌, ◌<◌, ℕ, length, ◌+◌, ◌/◌, ◌%◌, ◌&&◌, nat_lt, nat_le, if◌then◌else◌, List, [], ◌∷◌, ◌++◌, Option, Some, None, take, replicate}
use Rattle.std.specs.List.{flat_map}
use Rattle.std.specs.Option.{option_map}
use Rattle.texts.specs.Reading.{◌>>=◌}
use Rattle.image_shape.specs.declared.samples.SampleBytes.{SampleBytes}
use Rattle.image_shape.specs.declared.samples.SampleBytes.TheVariants.{One, LowFirst, HighFirst}
use Rattle.image_commands.specs.declared.changes.Change.{Change}
use Rattle.image_planes.specs.declared.change.Step.{Step}
use Rattle.frame_texts.specs.declared.pixel.Pixel.{Pixel}
use Rattle.frame_edits.specs.declared.paint.Paint.{Paint}
use Rattle.frame_edits.specs.declared.paint.Paint.TheVariants.{Grey, Black, Colour, Around}
use Rattle.frame_texts.specs.declared.rate.Rate.{Rate}
use Rattle.frame_edits.specs.declared.words.Edit.{Edit}
use Rattle.frame_edits.specs.declared.covers.Unit.{Unit as Samples}
use Rattle.frame_edits.specs.Covers.{settled_by, frames_for}

-- what each item becomes, where each becomes something
unfoldable pub all_some : {A B : Type 0} → (A → Option B) → List A → Option (List B)
all_some f [] = Some []
all_some f (x ∷ xs) = do
  y ← f x
  ys ← all_some f xs
  Some (y ∷ ys)

-- what the first item becomes, where there is one and it becomes something
abbrev pub first_made : {A B : Type 0} → (A → Option B) → List A → Option B
first_made f [] = None
first_made f (x ∷ xs) = f x

-- there is no item, or the first becomes something
abbrev pub StartsWell : {A B : Type 0} → (A → Option B) → List A → Type 0
StartsWell f xs = 0 < length xs → first_made f xs ≢ None

-- a step of the same frames, by what its change becomes
abbrev pub step_by : {V W : Type 0} → (Change V → Option (Change W)) → Step V → Option (Step W)
step_by become s = option_map (λ change. record { first = s.first; end = s.end; change = change }) (become s.change)

-- which bytes a sample has
abbrev pub bytes_of : Pixel → SampleBytes
bytes_of p = if nat_lt p.greatest 256 then One else if p.high_first then HighFirst else LowFirst

-- the bytes of a sample with this value
abbrev pub sample_bytes : Pixel → ℕ → List ℕ
sample_bytes p value =
    if nat_lt p.greatest 256 then value % 256 ∷ []
    else if p.high_first then value / 256 ∷ value % 256 ∷ []
    else value % 256 ∷ value / 256 ∷ []

-- eight bytes, the first of which are these samples; a pixel takes those that it has
abbrev pub pixel_bytes : Pixel → List ℕ → List ℕ
pixel_bytes p samples = take 8 (flat_map (sample_bytes p) samples ++ replicate 8 0)

-- the brightness of black: a sixteenth of the values, as in video
abbrev pub black : Pixel → ℕ
black p = (p.greatest + 1) / 16

-- the samples of one brightness: where there is one more, it is opaque
abbrev pub grey_samples : Pixel → ℕ → List ℕ
grey_samples p value = if p.tuples.colour then value ∷ value ∷ value ∷ p.greatest ∷ [] else value ∷ p.greatest ∷ 0 ∷ 0 ∷ []

-- a pixel of this brightness, where its samples have the value
abbrev pub grey_of : Pixel → ℕ → Option (List ℕ)
grey_of p value = if nat_le value p.greatest then Some (pixel_bytes p (grey_samples p value)) else None

-- a pixel of this colour, where it has three samples with these values
abbrev pub colour_of : Pixel → ℕ → ℕ → ℕ → Option (List ℕ)
colour_of p red green blue = if p.tuples.colour && (nat_le red p.greatest && (nat_le green p.greatest && nat_le blue p.greatest)) then Some (pixel_bytes p (red ∷ green ∷ blue ∷ p.greatest ∷ [])) else None

-- a chroma sample of no colour: the middle of the values
abbrev pub middle : Pixel → ℕ
middle p = p.greatest / 2 + 1

abbrev pub no_colour : Pixel → List ℕ
no_colour p = pixel_bytes p (replicate 4 (middle p))

-- a sample of what covers its place wholly
abbrev pub opaque : Pixel → List ℕ
opaque p = pixel_bytes p (replicate 4 p.greatest)

-- the bytes that a pixel gets
abbrev pub value_in : Pixel → Paint → Option (List ℕ)
value_in p (Grey value) = grey_of p value
value_in p Black = grey_of p (black p)
value_in p (Colour red green blue) = colour_of p red green blue
value_in p (Around (Some value) margin) = grey_of p value
value_in p (Around None margin) = grey_of p (black p)

-- an edit as a step of a frame of this size, where it has frames
abbrev pub step_in : Samples → Option Rate → ℕ → ℕ → Edit → Option (Step Paint)
step_in s rate width height e = option_map (λ span. record { first = span.0; end = span.1; change = settled_by e.scope s width height e.change }) (frames_for s rate e)
