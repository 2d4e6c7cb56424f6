-- What changes make of the grid of an image, and of a frame: planes one after the other.
use Rattle.std.specs.Prelude.{ℕ, ◌+◌, ◌*◌, ◌%◌, ◌==◌, ◌^◌, Bool, true, ◌&&◌, nat_lt, nat_le, if◌then◌else◌, Option, Some, None, List, [], ◌∷◌, ◌++◌, take, drop}
use Rattle.image_model.specs.Layout.{layout}
use Rattle.image_model.specs.Grid.{Grid, grid_of, patch}
use Rattle.image_model.specs.Flips.{flipped}
use Rattle.image_model.specs.Rows.{grid_pixels}
use Rattle.image_model.specs.Windows.{is_inside, window, window_view}
use Rattle.image_model.specs.Windows as model
use Rattle.image_shape.specs.Window.{as_window}
use Rattle.image_means.specs.Blur.{blurred}
use Rattle.image_means.specs.Means.{sample_mosaic}
use Rattle.image_shape.specs.declared.samples.SampleBytes.{SampleBytes}
use Rattle.image_shape.specs.declared.samples.SampleBytes.TheVariants.{One}
use Rattle.image_writes.specs.Mosaic.{mosaic_by}
use Rattle.image_writes.specs.Mirrored.{mirrored_by}
use Rattle.image_ops.specs.Repeated.{repeated}
use Rattle.std.specs.List.{list_all}
use Rattle.image_shape.specs.declared.window.Window.{Window}
use Rattle.image_commands.specs.declared.changes.Axes.{Axes}
use Rattle.image_commands.specs.declared.changes.Axes.TheVariants.{Rows, Columns, Both}
use Rattle.image_planes.specs.declared.change.Step.{Step}
use Rattle.image_commands.specs.declared.changes.Change.{Change}
use Rattle.image_commands.specs.declared.changes.Change.TheVariants.{Fill, Mosaic, Mean, Blur, Move, Flip}

-- a window of pixels as one of bytes, where so many bytes next to one another are a pixel
abbrev pub in_bytes : ℕ → Window → model.Window
in_bytes size w = window (size * w.left) w.top (size * w.width) w.height

-- the grid of bytes whose rows, or the pixels of its rows, are in the opposite order; with both it is turned by a half
abbrev pub flipped_by : ℕ → Axes → Grid ℕ → Grid ℕ
flipped_by size Rows g = flipped g
flipped_by size Columns g = mirrored_by size g
flipped_by size Both g = flipped (mirrored_by size g)

-- the bytes of a sample, where a pixel of so many has whole ones; else each byte is a sample
abbrev pub bytes_for : ℕ → SampleBytes → SampleBytes
bytes_for size bytes = if size % 2 == 0 then bytes else One

-- what a change of pixels of so many bytes makes of the grid of the bytes
abbrev pub changed : ℕ → Change (List ℕ) → Grid ℕ → Grid ℕ
changed size (Fill w value) g = patch g (size * w.left) w.top (repeated (size * w.width) w.height (take size value))
changed size (Mosaic w tile_width tile_height) g = patch g (size * w.left) w.top (mosaic_by size tile_width tile_height (window_view g (in_bytes size w)))
changed size (Mean w tile_width tile_height bytes) g = patch g (size * w.left) w.top (sample_mosaic (bytes_for size bytes) size tile_width tile_height (window_view g (in_bytes size w)))
changed size (Blur w across down bytes) g = patch g (size * w.left) w.top (blurred (bytes_for size bytes) size across down (window_view g (in_bytes size w)))
changed size (Move w left top) g = patch g (size * left) top (window_view g (in_bytes size w))
changed size (Flip axes) g = flipped_by size axes g

-- whether a change is valid for so many pixels: its windows are inside, its tiles have a place, and a box reaches fewer than 2 ^ 15 pixels on each side
abbrev pub is_change_of : ℕ → ℕ → Change (List ℕ) → Bool
is_change_of width height (Fill w value) = is_inside width height (as_window w)
is_change_of width height (Mosaic w tile_width tile_height) = nat_lt 0 tile_width && (nat_lt 0 tile_height && is_inside width height (as_window w))
is_change_of width height (Mean w tile_width tile_height bytes) = nat_lt 0 tile_width && (nat_lt 0 tile_height && is_inside width height (as_window w))
is_change_of width height (Blur w across down bytes) = nat_lt across (2 ^ 15) && (nat_lt down (2 ^ 15) && is_inside width height (as_window w))
is_change_of width height (Move w left top) = is_inside width height (as_window w) && is_inside width height (window left top w.width w.height)
is_change_of width height (Flip axes) = true

-- whether a step applies to the frame of this number
abbrev pub names : {V : Type 0} → Step V → ℕ → Bool
names s number = nat_le s.first number && nat_lt number s.end

-- what steps, one after the other, make of the grid of a plane of the frame of this number
abbrev pub stepped : ℕ → ℕ → List (Step (List ℕ)) → Grid ℕ → Grid ℕ
stepped size number [] g = g
stepped size number (s ∷ ss) g = stepped size number ss (if names s number then changed size s.change g else g)

-- whether all steps are valid for this size
abbrev pub are_inside : ℕ → ℕ → List (Step (List ℕ)) → Bool
are_inside width height steps = list_all (λ s. is_change_of width height s.change) steps

-- the size of a plane in pixels, how many bytes a pixel has, and its steps
pub record Job : Type 0 where
  pub size : ℕ
  pub width : ℕ
  pub height : ℕ
  pub steps : List (Step (List ℕ))

abbrev pub job : ℕ → ℕ → ℕ → List (Step (List ℕ)) → Job
job size width height steps = record { size = size; width = width; height = height; steps = steps }

-- whether a pixel has 1 to 8 bytes, a plane has columns, and its bytes make rows and columns in range
abbrev pub is_plane : ℕ → ℕ → ℕ → Bool
is_plane size width height = nat_lt 0 size && (nat_lt size 9 && (nat_lt 0 width && (nat_lt (size * width) (2 ^ 32) && nat_lt height (2 ^ 32))))

-- whether there is such a plane, and the steps are valid for it
abbrev pub is_job : ℕ → ℕ → ℕ → List (Step (List ℕ)) → Bool
is_job size width height steps = is_plane size width height && are_inside width height steps

-- the plane of this size with these steps, where there is such a plane
abbrev pub job_for : ℕ → ℕ → ℕ → List (Step (List ℕ)) → Option Job
job_for size width height steps = if is_job size width height steps then Some (job size width height steps) else None

-- how many bytes it has
abbrev pub job_len : Job → ℕ
job_len j = j.size * j.width * j.height

-- how many bytes all planes have
abbrev pub jobs_len : List Job → ℕ
jobs_len [] = 0
jobs_len (j ∷ js) = job_len j + jobs_len js

-- a number, where the machine has it
abbrev pub as_usize : ℕ → Option ℕ
as_usize n = if nat_lt n (2 ^ 64) then Some n else None

-- bytes as a grid of rows of so many
abbrev pub byte_grid : ℕ → ℕ → List ℕ → Grid ℕ
byte_grid width height cells = grid_of (layout cells width height width)

-- the grid of the bytes of a plane
abbrev pub plane_grid : Job → List ℕ → Grid ℕ
plane_grid j cells = byte_grid (j.size * j.width) j.height cells

-- the bytes of a plane after its steps: those of the grid that they make
abbrev pub changed_plane : ℕ → Job → List ℕ → List ℕ
changed_plane number j cells = grid_pixels (stepped j.size number j.steps (plane_grid j cells))

-- the bytes of the frame of this number after the steps of its planes; what comes after the last plane stays
abbrev pub changed_planes : ℕ → List Job → List ℕ → List ℕ
changed_planes number [] cells = cells
changed_planes number (j ∷ js) cells = changed_plane number j (take (job_len j) cells) ++ changed_planes number js (drop (job_len j) cells)
