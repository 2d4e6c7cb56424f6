-- A region that gets its label run by run. A run is some places of a row, one beside the other.
use Rattle.std.specs.Prelude.{◌≡◌, ◌≢◌, ℕ, ◌+◌, ◌*◌, ◌<◌, ◌≤◌, ◌⊎◌, Bool, true, Some, List, length, slice_index}
use Rattle.image_model.specs.Grid.{Grid, grid_of}
use Rattle.image_model.specs.Layout.{Layout, Fits}
use Rattle.image_model.specs.Connected.{IsConnected}
use Rattle.image_model.specs.Regions.{unlabelled}
use Rattle.imgref.specs.Words.{SameOutside, places_with, ref_grid, ref_layout, shape_height, shape_width, shaped}
use Rattle.image_regions.specs.Pending.{ArePlaces}
use Rattle.image_regions.specs.declared.labels.Run.{Run}
use Rattle.image_regions.specs.declared.labels.Search.{Search}

-- an image, and labels of its size
pub record CanBeLabelled {T : Type 0} (picture : Layout T) (labels : Layout ℕ) : Type 0 where
  pub fits : Fits picture
  pub labels_fit : Fits labels
  pub width : labels.width ≡ picture.width
  pub height : labels.height ≡ picture.height

-- the places of row y from one column up to another one show a pixel
abbrev pub ShowsAlong : {T : Type 0} → Grid T → T → ℕ → ℕ → ℕ → Type 0
ShowsAlong g pixel y from to = (u : ℕ) → from ≤ u → u < to → g.pixel u y ≡ Some pixel

-- they do so from column x on, and the place after them doesn't
pub record EndsAt {T : Type 0} (g : Grid T) (pixel : T) (y x end : ℕ) : Type 0 where
  pub after : x ≤ end
  pub along : ShowsAlong g pixel y x end
  pub ends : g.pixel end y ≢ Some pixel

-- these places get a label, and every other place is as before
pub record FillsRun (n y from to : ℕ) (old new : Grid ℕ) : Type 0 where
  pub along : ShowsAlong new n y from to
  pub each : (u v : ℕ) → (new.pixel u v ≡ old.pixel u v) ⊎ ((v ≡ y) × (from ≤ u) × (u < to) × (new.pixel u v ≡ Some n))

-- some places that had no label have label n now, and every other place is as before
abbrev pub AddsLabel : ℕ → Grid ℕ → Grid ℕ → Type 0
AddsLabel n old new = (u v : ℕ) → (new.pixel u v ≡ old.pixel u v) ⊎ ((old.pixel u v ≡ Some 0) × (new.pixel u v ≡ Some n))

-- ---- one region

-- the run that begins at a number in the room has column u of row v: its places up to there have label n
abbrev pub IsPending : ℕ → Grid ℕ → ℕ → ℕ → List ℕ → ℕ → ℕ → Type 0
IsPending n labels width count room u v = (k : ℕ) × (a : ℕ) × (k < count) × (slice_index room k ≡ v * width + a) × (a ≤ u) × ShowsAlong labels n v a (u + 1)

-- column u of row v is in a run
abbrev pub IsInRun : Run → ℕ → ℕ → Type 0
IsInRun run u v = (v ≡ run.y) × (run.from ≤ u) × (u < run.to)

-- a run of no places
abbrev pub no_run : Run
no_run = record { y = 0; from = 0; to = 0 }

-- one region gets label n, from column x of row y on. Whole runs have it, and the places above and below a run have to be looked at if the run is pending, or is the one that is looked at
pub record Spreading {T : Type 0} (test : T → Bool) (g : Grid T) (x y n : ℕ) (begun labels : Grid ℕ) (width count : ℕ) (room : List ℕ) (looked : Run) : Type 0 where
  pub first : (unlabelled test g begun).pixel x y ≡ Some true
  pub each : (u v : ℕ) → (labels.pixel u v ≡ begun.pixel u v) ⊎ (labels.pixel u v ≡ Some n)
  pub own : (u v : ℕ) → labels.pixel u v ≡ Some n → IsConnected (unlabelled test g begun) x y u v
  pub across : (u v i : ℕ) → labels.pixel u v ≡ Some n → (i ≡ u + 1) ⊎ (u ≡ i + 1) → (unlabelled test g begun).pixel i v ≡ Some true → labels.pixel i v ≡ Some n
  pub down : (u v j : ℕ) → labels.pixel u v ≡ Some n → (j ≡ v + 1) ⊎ (v ≡ j + 1) → (unlabelled test g begun).pixel u j ≡ Some true
      → (labels.pixel u j ≡ Some n) ⊎ (IsPending n labels width count room u v ⊎ IsInRun looked u v)

-- ---- a search

module _ {T : Type 0} (search : Search T) where
  -- the labels, in the search's shape
  abbrev pub label_grid : List ℕ → Grid ℕ
  label_grid labels = grid_of (shaped labels search.shape)

  -- the image, and labels of its size
  abbrev pub HasLabels : List ℕ → Type 0
  HasLabels labels = CanBeLabelled (ref_layout search.image) (shaped labels search.shape)

  -- there are labels for the image, and pending runs in a room with a number for each place that has no label
  pub record CanSpread (labels : List ℕ) (count : ℕ) (room : List ℕ) : Type 0 where
    pub fit : HasLabels labels
    pub some : 0 < search.label
    pub enough : count + places_with 0 (label_grid labels) ≤ length room
    pub places : ArePlaces (shape_width search.shape * shape_height search.shape) count room

  -- some places got the label, and for each pending run more one at least did
  pub record AddsRuns (old : List ℕ) (count : ℕ) (before new : List ℕ) (more : ℕ) (after : List ℕ) : Type 0 where
    pub adds : AddsLabel search.label (label_grid old) (label_grid new)
    pub fewer : more + places_with 0 (label_grid new) ≤ count + places_with 0 (label_grid old)
    pub places : ArePlaces (shape_width search.shape * shape_height search.shape) more after
    pub room : length after ≡ length before
    pub outside : SameOutside (shaped old search.shape) (shaped new search.shape)
    pub fits : Fits (shaped new search.shape)

  module _ (eq : T → T → Bool) where
    -- whether each place has no label and shows the seed
    abbrev pub open_places : List ℕ → Grid Bool
    open_places labels = unlabelled (λ p. eq p search.seed) (ref_grid search.image) (label_grid labels)

    -- the region of column x of row y gets the label
    abbrev pub IsSpreading : ℕ → ℕ → List ℕ → List ℕ → ℕ → List ℕ → Run → Type 0
    IsSpreading x y begun labels count room looked = Spreading (λ p. eq p search.seed) (ref_grid search.image) x y search.label (label_grid begun) (label_grid labels) (shape_width search.shape) count room looked

    -- places of a run were looked at: where a spread had come to the old labels, it has come to the new ones, if each of these places that was open at its beginning is connected
    abbrev pub SpreadsOn : Run → List ℕ → ℕ → List ℕ → List ℕ → ℕ → List ℕ → Type 0
    SpreadsOn run old count room new more noted = (begun : List ℕ) (x y : ℕ) (looked : Run)
        → ((u : ℕ) → run.from ≤ u → u < run.to → (open_places begun).pixel u run.y ≡ Some true → IsConnected (open_places begun) x y u run.y)
        → IsSpreading x y begun old count room looked
        → IsSpreading x y begun new more noted looked
