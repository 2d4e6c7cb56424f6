-- What each command means on grids: it speaks of places alone, and of no cell, stride or padding.
use Rattle.std.specs.Prelude.{◌≡◌, ◌<◌, ℕ, ◌+◌, Bool, not, ◌&&◌, ◌||◌, ◌==◌, nat_le, Option, Some, None, List, [], ◌∷◌, ◌++◌, length, slice_set, slice_index_or, is_some, count_by}
use Rattle.std.specs.List.{flat_map}
use Rattle.std.specs.Option.{option_map_or}
use Rattle.image_model.specs.Grid.{Grid, grid, is_place, patch}
use Rattle.image_model.specs.Rows.{table_rows}
use Rattle.image_model.specs.Tiles.{tile_start}
use Rattle.image_model.specs.Windows.{Window, window, window_view, first_outside, path_window}
use Rattle.image_shape.specs.Window.{as_path}
use Rattle.image_commands.specs.PlaceTests.{are_alike_pixels, agree_at_places}
use Rattle.image_commands.specs.declared.commands.Place.{Place}
use Rattle.image_commands.specs.declared.commands.Command.{Command}
use Rattle.image_commands.specs.declared.commands.Command.TheVariants.{Get, Put, Fill, Count, Same, Blit, Mosaic, Compact}
use Rattle.image_commands.specs.declared.commands.Refusal.{Refusal}
use Rattle.image_commands.specs.declared.commands.Refusal.TheVariants.{NoImage, WindowOutside, PlaceOutside, SizesDiffer, NoTile}
use Rattle.image_commands.specs.declared.commands.Reply.{Reply}
use Rattle.image_commands.specs.declared.commands.Reply.TheVariants.{Pixel, Counted, Truth, Done}

-- ---- what a place names

-- grid i of a list, and where there is none the grid with no place
abbrev pub grid_at : {T : Type 0} → List (Grid T) → ℕ → Grid T
grid_at grids i = slice_index_or grids i (grid 0 0 (λ _ _. None))

-- how many images there are, and the size of each by its number
pub record Sizes : Type 0 where
  pub count : ℕ
  pub width : ℕ → ℕ
  pub height : ℕ → ℕ

-- the sizes of grids
abbrev pub sizes_of : {T : Type 0} → List (Grid T) → Sizes
sizes_of grids = record { count = length grids; width = λ i. (grid_at grids i).width; height = λ i. (grid_at grids i).height }

-- the window that the path of a place leads to
abbrev pub window_named : Place → Sizes → Window
window_named spot sizes = path_window (sizes.width spot.image) (sizes.height spot.image) (as_path spot.path.items)

-- the view through that window
abbrev pub view_named : {T : Type 0} → Place → List (Grid T) → Grid T
view_named spot grids = window_view (grid_at grids spot.image) (window_named spot (sizes_of grids))

-- column x of row y of that window is a place of it, and is this column and row of the image
pub record IsPlaceNamed {T : Type 0} (spot : Place) (x y : ℕ) (grids : List (Grid T)) (column row : ℕ) : Type 0 where
  pub column_is : column ≡ (window_named spot (sizes_of grids)).left + x
  pub row_is : row ≡ (window_named spot (sizes_of grids)).top + y
  pub x_within : x < (window_named spot (sizes_of grids)).width
  pub y_within : y < (window_named spot (sizes_of grids)).height
  pub column_inside : column < (grid_at grids spot.image).width
  pub row_inside : row < (grid_at grids spot.image).height

-- ---- faults: a test of sizes, and the refusal where it holds

-- the image number is not below the number of images
abbrev pub lacks_image : ℕ → Sizes → Bool
lacks_image image sizes = nat_le sizes.count image

-- a window of the path is not inside the size before it
abbrev pub leaves_image : Place → Sizes → Bool
leaves_image spot sizes = is_some (first_outside (sizes.width spot.image) (sizes.height spot.image) (as_path spot.path.items))

-- column x of row y isn't a place of the window
abbrev pub misses_window : Place → ℕ → ℕ → Sizes → Bool
misses_window spot x y sizes = let w = window_named spot sizes in not (is_place w.width w.height x y)

-- two windows differ in width or height
abbrev pub differ_in_size : Place → Place → Sizes → Bool
differ_in_size source target sizes = let v = window_named source sizes in let w = window_named target sizes in not ((v.width == w.width) && (v.height == w.height))

-- a tile of this size has no place
abbrev pub lacks_tile : ℕ → ℕ → Bool
lacks_tile tile_width tile_height = (tile_width == 0) || (tile_height == 0)

-- of an image
abbrev pub image_faults : ℕ → Sizes → List (Bool × Refusal)
image_faults image sizes = (lacks_image image sizes, NoImage) ∷ []

-- of a window: its image is tested first, and then its path
abbrev pub window_faults : Place → Sizes → List (Bool × Refusal)
window_faults spot sizes = (lacks_image spot.image sizes, NoImage) ∷ (leaves_image spot sizes, WindowOutside) ∷ []

-- of a place of a window: those of the window, and then the place
abbrev pub place_faults : Place → ℕ → ℕ → Sizes → List (Bool × Refusal)
place_faults spot x y sizes = window_faults spot sizes ++ (misses_window spot x y sizes, PlaceOutside) ∷ []

-- of two windows: both images are tested before the first path
abbrev pub pair_faults : Place → Place → Sizes → List (Bool × Refusal)
pair_faults first second sizes =
    (lacks_image first.image sizes, NoImage) ∷ (lacks_image second.image sizes, NoImage) ∷ (leaves_image first sizes, WindowOutside) ∷ (leaves_image second sizes, WindowOutside) ∷ []

-- of two windows that must have the same size: those of the windows, and then their sizes
abbrev pub copy_faults : Place → Place → Sizes → List (Bool × Refusal)
copy_faults source target sizes = pair_faults source target sizes ++ (differ_in_size source target sizes, SizesDiffer) ∷ []

-- of a window that is cut into tiles: those of the window, and then the tile
abbrev pub tile_faults : Place → ℕ → ℕ → Sizes → List (Bool × Refusal)
tile_faults spot tile_width tile_height sizes = window_faults spot sizes ++ (lacks_tile tile_width tile_height, NoTile) ∷ []

-- ---- pixels that a command names

-- a pixel that the command was given, or the old one in column x of row y of a window
pub data Source (T : Type 0) : Type 0 where
  given : T → Source T
  old : Place → ℕ → ℕ → Source T

-- that pixel, where there is one
abbrev pub pixel_from : {T : Type 0} → Source T → List (Grid T) → Option T
pixel_from (given value) grids = Some value
pixel_from (old spot x y) grids = (view_named spot grids).pixel x y

-- everything that a reply may depend on: the sizes, and which pixels are equal
pub record Scene (T : Type 0) : Type 0 where
  pub sizes : Sizes
  pub are_equal : Source T → Source T → Bool

-- the scene of grids, by a test of pixels
abbrev pub scene_of : {T : Type 0} → (T → T → Bool) → List (Grid T) → Scene T
scene_of eq grids = record { sizes = sizes_of grids; are_equal = λ a b. are_alike_pixels eq (pixel_from a grids) (pixel_from b grids) }

-- the number of places of a size that pass a test
abbrev pub count_places : ℕ → ℕ → (ℕ → ℕ → Bool) → ℕ
count_places width height test = count_by (λ passes. passes) (flat_map (λ row. row) (table_rows (λ x y. Some (test x y)) width height))

-- the number of pixels of a window that are equal to a value
abbrev pub count_equal : {T : Type 0} → Place → T → Scene T → ℕ
count_equal spot value scene = let w = window_named spot scene.sizes in count_places w.width w.height (λ x y. scene.are_equal (old spot x y) (given value))

-- whether two windows have the same size, and equal pixels at each place
abbrev pub are_same : {T : Type 0} → Place → Place → Scene T → Bool
are_same first second scene =
    let v = window_named first scene.sizes in
    let w = window_named second scene.sizes in
    agree_at_places v.width w.width v.height w.height (λ x y. scene.are_equal (old first x y) (old second x y))

-- ---- what a command replies and what it writes

-- a reply with a pixel, or one without
pub data Answer (T : Type 0) : Type 0 where
  shown : Source T → Answer T
  told : Reply T → Answer T

-- the reply of an answer
abbrev pub reply_of : {T : Type 0} → Answer T → List (Grid T) → Reply T
reply_of (shown source) grids = option_map_or (λ pixel. Pixel pixel) (pixel_from source grids) Done
reply_of (told reply) grids = reply

-- a window of one image
pub record Area : Type 0 where
  pub image : ℕ
  pub window : Window

-- the window of a place
abbrev pub window_area : Place → Sizes → Area
window_area spot sizes = record { image = spot.image; window = window_named spot sizes }

-- column x of row y of that window, alone
abbrev pub place_area : Place → ℕ → ℕ → Sizes → Area
place_area spot x y sizes = let w = window_named spot sizes in record { image = spot.image; window = window (w.left + x) (w.top + y) 1 1 }

-- an area that is written, and where the new pixel in column x of its row y comes from
pub record Write (T : Type 0) : Type 0 where
  pub area : Area
  pub pixel : ℕ → ℕ → Source T

-- the grids with the one of the area patched there: each new pixel is as it was before
abbrev pub written : {T : Type 0} → Write T → List (Grid T) → List (Grid T)
written write grids =
    let image = write.area.image in
    let w = write.area.window in
    slice_set grids image (patch (grid_at grids image) w.left w.top (grid w.width w.height (λ x y. pixel_from (write.pixel x y) grids)))

-- ---- meanings

-- what a command means: its faults in the order of their tests; what it replies and what it writes where there is no fault; and the image that it compacts
pub record Meaning (T : Type 0) : Type 0 where
  pub faults : Sizes → List (Bool × Refusal)
  pub answer : Scene T → Answer T
  pub write : Sizes → Option (Write T)
  pub compacted : Option ℕ

-- a command that asks a question: the grids stay
abbrev pub asks : {T : Type 0} → (Sizes → List (Bool × Refusal)) → (Scene T → Answer T) → Meaning T
asks faults answer = record { faults = faults; answer = answer; write = λ _. None; compacted = None }

-- a command that writes an area: the reply is `Done`. Where a new pixel comes from may depend on the sizes too
abbrev pub writes : {T : Type 0} → (Sizes → List (Bool × Refusal)) → (Sizes → Area) → (Sizes → ℕ → ℕ → Source T) → Meaning T
writes faults area pixel = record { faults = faults; answer = λ _. told Done; write = λ sizes. Some (record { area = area sizes; pixel = pixel sizes }); compacted = None }

-- a command that compacts an image: the reply is `Done`, and no grid changes
abbrev pub packs : {T : Type 0} → ℕ → Meaning T
packs image = record { faults = image_faults image; answer = λ _. told Done; write = λ _. None; compacted = Some image }

-- each command
abbrev pub meaning : {T : Type 0} → Command T → Meaning T
meaning (Get spot x y) = asks (place_faults spot x y) (λ _. shown (old spot x y))
meaning (Put spot x y value) = writes (place_faults spot x y) (place_area spot x y) (λ _ _ _. given value)
meaning (Fill spot value) = writes (window_faults spot) (window_area spot) (λ _ _ _. given value)
meaning (Count spot value) = asks (window_faults spot) (λ scene. told (Counted (count_equal spot value scene)))
meaning (Same first second) = asks (pair_faults first second) (λ scene. told (Truth (are_same first second scene)))
meaning (Blit source target) = writes (copy_faults source target) (window_area target) (λ _ x y. old source x y)
meaning (Mosaic spot tile_width tile_height) = writes (tile_faults spot tile_width tile_height) (window_area spot) (λ _ x y. old spot (tile_start tile_width x) (tile_start tile_height y))
meaning (Compact image) = packs image
