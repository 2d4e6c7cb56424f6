-- What is done to a video, and to a picture.
use Rattle.std.specs.Prelude.{◌≡◌, true, ◌==◌, ℕ, ◌+◌, ◌<◌, List, [], ◌∷◌, ◌++◌, map, Option, Some, None, if◌then◌else◌}
use Rattle.std.specs.Option.{option_map}
use Rattle.std.specs.declared.vec.Vec.{Vec}
use Rattle.image_planes.specs.Changes.{Job, jobs_len, changed_planes}
use Rattle.image_planes.specs.Resized.{Resizing, resized_planes, sources_len, targets_len, new_width, new_height}
use Rattle.image_planes.specs.Targets.{resizing_of}
use Rattle.image_planes.specs.Filled.{PlanesUnfilled}
use Rattle.image_planes.specs.Scratch.{scratch_len}
use Rattle.image_planes.specs.Unseen.{PlanesAlike}
use Rattle.image_planes.specs.declared.target.Target.{Target}
use Rattle.frame_texts.specs.Format.{format_of, is_upright}
use Rattle.frame_formats.specs.Framings.{resize_for}
use Rattle.frame_formats.specs.Layers.{picture_pixel, picture_layers, video_layers, jobs_on, resizings_on}
use Rattle.frame_edits.specs.Covers.{video_unit, one_pixel}
use Rattle.frame_formats.specs.Steps.{step_in}
use Rattle.frame_texts.specs.VideoLine.{resized}
use Rattle.frame_texts.specs.Rates.{rate_of}
use Rattle.frame_formats.specs.Steps.{all_some}
use Rattle.frame_texts.specs.Heads.{head_text}
use Rattle.frame_texts.specs.Picture.{picture, picture_of, is_greatest}
use Rattle.frame_edits.specs.Edits.{Edits}
use Rattle.frame_edits.specs.Order.{covers_first}
use Rattle.texts.specs.Reading.{◌>>=◌}
use Rattle.frame_edits.specs.declared.framing.Framing.{Framing}
use Rattle.frame_texts.specs.declared.header.Format.{Format}
use Rattle.frame_texts.specs.declared.picture.Picture.{Picture}

-- what is written before the first frame, how many bytes a frame has, and how many in its other size, what is done to each of its planes, and what the bytes of a frame become, by its number from 0
pub record Recipe : Type 0 where
  pub head : List ℕ
  pub size : ℕ
  pub other_size : ℕ
  pub jobs : List Job
  pub frame : ℕ → List ℕ → List ℕ

-- the planes in their other size, where they get one
abbrev pub resized_by : Option (List Resizing) → List ℕ → List ℕ
resized_by None planes = planes
resized_by (Some resizings) planes = resized_planes resizings planes

-- how many bytes the planes have in their other size, where they get one
abbrev pub other_len : Option (List Resizing) → ℕ
other_len None = 0
other_len (Some resizings) = targets_len resizings

-- each plane is changed, and then made one of its other size
abbrev pub recipe : List ℕ → List Job → Option (List Resizing) → Recipe
recipe head jobs resizings = record {
  head = head;
  size = jobs_len jobs;
  other_size = other_len resizings;
  jobs = jobs;
  frame = λ number cells. resized_by resizings (changed_planes number jobs cells);
}

-- how many bytes the buffers have that it needs: for a frame, for its other size, and for blurs
abbrev pub buffers_len : Recipe → ℕ
buffers_len r = r.size + r.other_size + scratch_len r.jobs

-- ---- a video

-- by what becomes of the size, which leaves a row: the line names it
abbrev pub finished_video : List ℕ → Format → List Job → Option Framing → Option Recipe
finished_video line format jobs None = Some (recipe (line ++ 10 ∷ []) jobs None)
finished_video line format jobs (Some framing) =
    resize_for (is_upright format) format.pixel format.width format.height framing >>= λ resize.
    if new_height resize == 0 then None
    else option_map (λ resizings. recipe (resized (new_width resize) (new_height resize) line ++ 10 ∷ []) jobs (Some resizings)) (resizings_on format.pixel (video_layers format.chroma) format.width format.height resize)

-- the recipe of edits of a video with this line, where they are edits of it
abbrev pub video_recipe : Edits → List ℕ → Option Recipe
video_recipe e line = format_of line >>= λ format. all_some (step_in (video_unit format) (rate_of line) format.width format.height) e.steps >>= λ steps. jobs_on format.pixel (video_layers format.chroma) format.width format.height steps >>= λ jobs. finished_video line format jobs e.framing

-- ---- a picture

-- a picture of the same kind in its new size
abbrev pub resized_picture : Picture → ℕ → ℕ → Picture
resized_picture p width height = picture width height p.kind p.greatest

-- by what becomes of the size, which leaves a row
abbrev pub finished_picture : Picture → List Job → Option Framing → Option Recipe
finished_picture p jobs None = Some (recipe (head_text p) jobs None)
finished_picture p jobs (Some framing) =
    resize_for true (picture_pixel p) p.width p.height framing >>= λ resize.
    if new_height resize == 0 then None
    else option_map (λ resizings. recipe (head_text (resized_picture p (new_width resize) (new_height resize))) jobs (Some resizings)) (resizings_on (picture_pixel p) picture_layers p.width p.height resize)

-- the recipe of edits of a picture, which has no rate, where they are edits of it
abbrev pub picture_recipe : Edits → Picture → Option Recipe
picture_recipe e p = all_some (step_in one_pixel None p.width p.height) e.steps >>= λ steps. jobs_on (picture_pixel p) picture_layers p.width p.height steps >>= λ jobs. finished_picture p jobs e.framing

-- ---- sizes

-- how many bytes a frame has then
abbrev pub new_len : List Job → Option (List Resizing) → ℕ
new_len jobs None = jobs_len jobs
new_len jobs (Some resizings) = targets_len resizings

-- how many bytes the planes have that get another size
abbrev pub resized_len : Option (List Resizing) → ℕ
resized_len None = 0
resized_len (Some resizings) = sources_len resizings

abbrev pub resizings_of : {Z : Type 0} → Option (Vec Target Z) → Option (List Resizing)
resizings_of targets = option_map (λ ts. map resizing_of ts.items) targets

-- ---- what is known of recipes

-- frames that differ only in what the steps hide become one
abbrev pub HidesAlike : Recipe → Type 0
HidesAlike r = (number : ℕ) (p q : List ℕ) → PlanesAlike number r.jobs p q → r.frame number p ≡ r.frame number q

abbrev pub VideosHide : Type 0
VideosHide = (e : Edits) (line : List ℕ) (r : Recipe) → video_recipe e line ≡ Some r → HidesAlike r

abbrev pub PicturesHide : Type 0
PicturesHide = (e : Edits) (p : Picture) (r : Recipe) → picture_recipe e p ≡ Some r → HidesAlike r

-- what is written before a picture is the head of one
abbrev pub HeadsAreRead : Type 0
HeadsAreRead = (e : Edits) (p : Picture) (r : Recipe) → 0 < p.height → is_greatest p.greatest ≡ true → picture_recipe e p ≡ Some r → (q : Picture) × (picture_of r.head ≡ Some q)

-- frames that differ only in what covers and fills fill differ only in what is hidden
abbrev pub HidesFilled : Recipe → Type 0
HidesFilled r = (number : ℕ) (p q : List ℕ) → PlanesUnfilled number r.jobs p q → PlanesAlike number r.jobs p q

-- this is so where covers and fills come first
abbrev pub VideosHideFilled : Type 0
VideosHideFilled = (e : Edits) (line : List ℕ) (r : Recipe) → covers_first e.steps ≡ true → video_recipe e line ≡ Some r → HidesFilled r

abbrev pub PicturesHideFilled : Type 0
PicturesHideFilled = (e : Edits) (p : Picture) (r : Recipe) → covers_first e.steps ≡ true → picture_recipe e p ≡ Some r → HidesFilled r
