-- What a frame doesn't reveal after fills and mosaics.
use Rattle.std.specs.Prelude.{◌≡◌, ℕ, ◌*◌, ◌-◌, ◌/◌, ◌==◌, ◌&&◌, Bool, true, false, not, if◌then◌else◌, List, [], ◌∷◌, take, drop}
use Rattle.image_model.specs.Grid.{Grid, covers}
use Rattle.image_model.specs.Tiles.{tile_start}
use Rattle.image_model.specs.Windows.{window_view}
use Rattle.image_means.specs.Blur.{blurred}
use Rattle.image_means.specs.Means.{sample_mosaic}
use Rattle.image_shape.specs.declared.samples.SampleBytes.{SampleBytes}
use Rattle.image_planes.specs.Changes.{Job, bytes_for, in_bytes, job_len, plane_grid, names}
use Rattle.image_commands.specs.declared.changes.Axes.TheVariants.{Rows, Columns, Both}
use Rattle.image_planes.specs.declared.change.Step.{Step}
use Rattle.image_commands.specs.declared.changes.Change.{Change}
use Rattle.image_commands.specs.declared.changes.Change.TheVariants.{Fill, Mosaic, Mean, Blur, Move, Flip}
use Rattle.image_shape.specs.declared.window.Window.{Window}

-- whether column x of row y is the corner of a tile, where tiles begin at the window's corner
abbrev pub is_corner : Window → ℕ → ℕ → ℕ → ℕ → Bool
is_corner w tile_width tile_height x y = (tile_start tile_width (x - w.left) == x - w.left) && (tile_start tile_height (y - w.top) == y - w.top)

-- whether a change of an image of so many columns and rows hides a place, or the steps after it do (later): a fill hides all of its window, a mosaic all but the corners of its tiles, means and a blur nothing of their window and elsewhere what the steps after them do, a flip what the steps after it hide where it brings the place, and neither a move nor what comes after it hides anything
abbrev pub hidden_by : ℕ → ℕ → Change (List ℕ) → (ℕ → ℕ → Bool) → ℕ → ℕ → Bool
hidden_by width height (Fill w value) later x y = if covers w.left w.top w.width w.height x y then true else later x y
hidden_by width height (Mosaic w tile_width tile_height) later x y = if covers w.left w.top w.width w.height x y then not (is_corner w tile_width tile_height x y) else later x y
hidden_by width height (Mean w tile_width tile_height bytes) later x y = if covers w.left w.top w.width w.height x y then false else later x y
hidden_by width height (Blur w across down bytes) later x y = if covers w.left w.top w.width w.height x y then false else later x y
hidden_by width height (Move w left top) later x y = false
hidden_by width height (Flip Rows) later x y = later x (height - 1 - y)
hidden_by width height (Flip Columns) later x y = later (width - 1 - x) y
hidden_by width height (Flip Both) later x y = later (width - 1 - x) (height - 1 - y)

-- whether the steps of the frame of this number hide a place
abbrev pub is_hidden : ℕ → ℕ → ℕ → List (Step (List ℕ)) → ℕ → ℕ → Bool
is_hidden width height number [] x y = false
is_hidden width height number (s ∷ ss) x y = if names s number then hidden_by width height s.change (is_hidden width height number ss) x y else is_hidden width height number ss x y

-- two grids of the bytes of a plane differ only in pixels that its steps hide
pub record GridsAlike (number : ℕ) (j : Job) (g h : Grid ℕ) : Type 0 where
  pub same_width : g.width ≡ h.width
  pub same_height : g.height ≡ h.height
  pub shown : (x y : ℕ) → is_hidden j.width j.height number j.steps (x / j.size) y ≡ false → g.pixel x y ≡ h.pixel x y

-- the same of two frames of this number, plane by plane; what comes after the last plane is the same
abbrev pub PlanesAlike : ℕ → List Job → List ℕ → List ℕ → Type 0
PlanesAlike number [] p q = p ≡ q
PlanesAlike number (j ∷ js) p q =
    GridsAlike number j (plane_grid j (take (job_len j) p)) (plane_grid j (take (job_len j) q)) × PlanesAlike number js (drop (job_len j) p) (drop (job_len j) q)

-- two grids are the same but in a window, of which one grid is made
pub record MadeAlike (size : ℕ) (w : Window) (make : Grid ℕ → Grid ℕ) (g h : Grid ℕ) : Type 0 where
  pub same_width : g.width ≡ h.width
  pub same_height : g.height ≡ h.height
  pub beside : (x y : ℕ) → covers (size * w.left) w.top (size * w.width) w.height x y ≡ false → g.pixel x y ≡ h.pixel x y
  pub made : make (window_view g (in_bytes size w)) ≡ make (window_view h (in_bytes size w))

-- each tile of it has the same means
abbrev pub MeansAlike : ℕ → Window → ℕ → ℕ → SampleBytes → Grid ℕ → Grid ℕ → Type 0
MeansAlike size w tile_width tile_height bytes g h = MadeAlike size w (sample_mosaic (bytes_for size bytes) size tile_width tile_height) g h

-- each box of it has the same mean
abbrev pub BoxesAlike : ℕ → Window → ℕ → ℕ → SampleBytes → Grid ℕ → Grid ℕ → Type 0
BoxesAlike size w across down bytes g h = MadeAlike size w (blurred (bytes_for size bytes) size across down) g h
