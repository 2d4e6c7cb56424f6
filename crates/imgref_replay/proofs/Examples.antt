-- Worked commands, computed: what the definitions say of one small image.
use Rattle.std.proofs.Common.{◌≡◌, ◌==◌, ◌<◌, ◌^◌, ℕ, List, [], ◌∷◌, true, false, length, map, refl, arith}
use denote.RawPtr.{Ptr}
use Rattle.std.specs.declared.alloc.Global.{Global}
use Rattle.image_model.specs.Layout.{layout}
use Rattle.image_model.specs.Grid.{Grid, grid_of, patch, uniform, view}
use Rattle.image_model.specs.Rows.{grid_joined_rows}
use Rattle.imgref_replay.specs.Run.{replies_to, after_all}
use Rattle.image_shape.specs.declared.window.Window.{Window}
use Rattle.image_commands.specs.declared.commands.Place.{Place}
use Rattle.image_commands.specs.declared.commands.Command.TheVariants.{Get, Put, Fill, Count, Same, Blit, Mosaic, Compact}
use Rattle.image_commands.specs.declared.commands.Reply.TheVariants.{Pixel, Counted, Truth, Done, Refused}
use Rattle.image_commands.specs.declared.commands.Refusal.TheVariants.{NoImage, WindowOutside, PlaceOutside, SizesDiffer, NoTile}

-- 3 by 2 at stride 4, with cells past the last pixel: 1 2 3 above 5 6 7
abbrev padded : Grid ℕ
padded = grid_of (layout (1 ∷ 2 ∷ 3 ∷ 4 ∷ 5 ∷ 6 ∷ 7 ∷ 8 ∷ 9 ∷ []) 3 2 4)

abbrev window : ℕ → ℕ → ℕ → ℕ → Window
window left top width height = record { left = left; top = top; width = width; height = height }

module _ (ptr : Ptr) (alloc : Global) where
  -- a place of image n, whose path lies somewhere in memory
  abbrev place : ℕ → (path : List Window) → length path < 2 ^ 63 → Place
  place n path small = record { image = n; path = record { ptr = ptr; len = length path; cap = length path; alloc = alloc; items = path; ok = (refl, omega arith); small = small } }

  -- the window (1,0,1,2) of the window (1,0,2,2): its place (0,1) is the place (2,1) of the image
  abbrev nested : Place
  nested = place 0 (window 1 0 2 2 ∷ window 1 0 1 2 ∷ []) (omega arith)

  abbrev whole : Place
  whole = place 0 [] (omega arith)

  get_nested : replies_to ◌==◌ (Get nested 0 1 ∷ []) (padded ∷ []) ≡ Pixel 7 ∷ []
  unfolding grid_of view
  get_nested = refl

  put_then_get : replies_to ◌==◌ (Put (place 0 (window 1 1 2 1 ∷ []) (omega arith)) 0 0 9 ∷ Get whole 1 1 ∷ []) (padded ∷ []) ≡ Done ∷ Pixel 9 ∷ []
  unfolding grid_of view patch uniform
  put_then_get = refl

  put_patches : map grid_joined_rows (after_all (Put (place 0 (window 1 1 2 1 ∷ []) (omega arith)) 0 0 9 ∷ []) (padded ∷ [])) ≡ (1 ∷ 2 ∷ 3 ∷ 5 ∷ 9 ∷ 7 ∷ []) ∷ []
  unfolding grid_of patch uniform
  put_patches = refl

  put_then_count : replies_to ◌==◌ (Put (place 0 (window 1 1 2 1 ∷ []) (omega arith)) 0 0 9 ∷ Count whole 9 ∷ Get whole 1 1 ∷ []) (padded ∷ []) ≡ Done ∷ Counted 1 ∷ Pixel 9 ∷ []
  unfolding grid_of view patch uniform
  put_then_count = refl

  fill_patches : map grid_joined_rows (after_all (Fill (place 0 (window 1 0 2 2 ∷ []) (omega arith)) 0 ∷ []) (padded ∷ [])) ≡ (1 ∷ 0 ∷ 0 ∷ 5 ∷ 0 ∷ 0 ∷ []) ∷ []
  unfolding grid_of patch uniform
  fill_patches = refl

  fill_then_count : replies_to ◌==◌ (Fill (place 0 (window 1 0 2 2 ∷ []) (omega arith)) 0 ∷ Count whole 0 ∷ Count nested 0 ∷ []) (padded ∷ []) ≡ Done ∷ Counted 4 ∷ Counted 2 ∷ []
  unfolding grid_of view patch uniform
  fill_then_count = refl

  -- the image number is tested before the path, and the path before the place
  image_first : replies_to ◌==◌ (Get (place 1 (window 9 9 9 9 ∷ []) (omega arith)) 9 9 ∷ []) (padded ∷ []) ≡ Refused NoImage ∷ []
  image_first = refl

  path_second : replies_to ◌==◌ (Get (place 0 (window 2 0 2 1 ∷ []) (omega arith)) 9 9 ∷ []) (padded ∷ []) ≡ Refused WindowOutside ∷ []
  unfolding grid_of
  path_second = refl

  -- a window is inside the one before it, and not only inside the image
  path_nested : replies_to ◌==◌ (Get (place 0 (window 0 0 2 2 ∷ window 1 0 2 1 ∷ []) (omega arith)) 0 0 ∷ []) (padded ∷ []) ≡ Refused WindowOutside ∷ []
  unfolding grid_of
  path_nested = refl

  place_last : replies_to ◌==◌ (Get whole 3 0 ∷ Get nested 1 0 ∷ []) (padded ∷ []) ≡ Refused PlaceOutside ∷ Refused PlaceOutside ∷ []
  unfolding grid_of
  place_last = refl

  -- an empty window at the edge is inside, and has no place
  empty_window : replies_to ◌==◌ (Get (place 0 (window 3 0 0 2 ∷ []) (omega arith)) 0 0 ∷ []) (padded ∷ []) ≡ Refused PlaceOutside ∷ []
  unfolding grid_of
  empty_window = refl

  -- so it is filled and counted without a pixel
  empty_filled : map grid_joined_rows (after_all (Fill (place 0 (window 3 0 0 2 ∷ []) (omega arith)) 0 ∷ []) (padded ∷ [])) ≡ (1 ∷ 2 ∷ 3 ∷ 5 ∷ 6 ∷ 7 ∷ []) ∷ []
  unfolding grid_of patch
  empty_filled = refl

  empty_counted : replies_to ◌==◌ (Count (place 0 (window 3 0 0 2 ∷ []) (omega arith)) 1 ∷ []) (padded ∷ []) ≡ Counted 0 ∷ []
  unfolding grid_of view
  empty_counted = refl

  windows_refused : replies_to ◌==◌ (Fill (place 1 (window 9 9 9 9 ∷ []) (omega arith)) 0 ∷ Count (place 0 (window 2 0 2 1 ∷ []) (omega arith)) 0 ∷ []) (padded ∷ []) ≡ Refused NoImage ∷ Refused WindowOutside ∷ []
  unfolding grid_of
  windows_refused = refl

  refused_changes_nothing : after_all (Put whole 3 0 9 ∷ []) (padded ∷ []) ≡ padded ∷ []
  unfolding grid_of
  refused_changes_nothing = refl

  -- of windows: the pixels decide, and where the sizes differ there is no pixel to compare
  same_windows : replies_to ◌==◌ (Same nested nested ∷ Same nested (place 0 (window 2 0 1 2 ∷ []) (omega arith)) ∷ Same nested (place 0 (window 1 0 1 2 ∷ []) (omega arith)) ∷ Same whole nested ∷ []) (padded ∷ [])
      ≡ Truth true ∷ Truth true ∷ Truth false ∷ Truth false ∷ []
  unfolding grid_of view
  same_windows = refl

  same_empty : replies_to ◌==◌ (Same (place 0 (window 3 0 0 2 ∷ []) (omega arith)) (place 0 (window 0 0 0 2 ∷ []) (omega arith)) ∷ Same (place 0 (window 3 0 0 2 ∷ []) (omega arith)) (place 0 (window 0 2 3 0 ∷ []) (omega arith)) ∷ [])
      (padded ∷ []) ≡ Truth true ∷ Truth false ∷ []
  unfolding grid_of view
  same_empty = refl

  -- both image numbers are tested before the first path
  both_images_first : replies_to ◌==◌ (Same (place 0 (window 9 9 9 9 ∷ []) (omega arith)) (place 1 [] (omega arith)) ∷ Same (place 0 (window 9 9 9 9 ∷ []) (omega arith)) whole ∷ []) (padded ∷ [])
      ≡ Refused NoImage ∷ Refused WindowOutside ∷ []
  unfolding grid_of
  both_images_first = refl

  -- the source is what it was before the copy, also where the two windows overlap
  blit_overlapping : map grid_joined_rows (after_all (Blit (place 0 (window 0 0 2 2 ∷ []) (omega arith)) (place 0 (window 1 0 2 2 ∷ []) (omega arith)) ∷ []) (padded ∷ [])) ≡ (1 ∷ 1 ∷ 2 ∷ 5 ∷ 5 ∷ 6 ∷ []) ∷ []
  unfolding grid_of view patch
  blit_overlapping = refl

  -- sizes are compared after both paths
  blit_refused : replies_to ◌==◌ (Blit nested whole ∷ Blit whole (place 0 (window 9 9 9 9 ∷ []) (omega arith)) ∷ Blit (place 0 (window 9 9 9 9 ∷ []) (omega arith)) (place 1 [] (omega arith)) ∷ []) (padded ∷ [])
      ≡ Refused SizesDiffer ∷ Refused WindowOutside ∷ Refused NoImage ∷ []
  unfolding grid_of
  blit_refused = refl

  -- each place has the old pixel at its tile's corner, and the last tile of a line is cut
  mosaic_cut : map grid_joined_rows (after_all (Mosaic whole 2 2 ∷ []) (padded ∷ [])) ≡ (1 ∷ 1 ∷ 3 ∷ 1 ∷ 1 ∷ 3 ∷ []) ∷ []
  unfolding grid_of view patch
  mosaic_cut = refl

  mosaic_in_window : map grid_joined_rows (after_all (Mosaic (place 0 (window 1 0 2 2 ∷ []) (omega arith)) 5 1 ∷ []) (padded ∷ [])) ≡ (1 ∷ 2 ∷ 2 ∷ 5 ∷ 6 ∷ 6 ∷ []) ∷ []
  unfolding grid_of view patch
  mosaic_in_window = refl

  -- a tile is tested after the path, and in an empty window too
  mosaic_refused : replies_to ◌==◌ (Mosaic (place 1 [] (omega arith)) 0 0 ∷ Mosaic (place 0 (window 9 9 9 9 ∷ []) (omega arith)) 0 0 ∷ Mosaic (place 0 (window 3 0 0 2 ∷ []) (omega arith)) 3 0 ∷ Mosaic (place 0 (window 3 0 0 2 ∷ []) (omega arith)) 3 3 ∷ []) (padded ∷ [])
      ≡ Refused NoImage ∷ Refused WindowOutside ∷ Refused NoTile ∷ Done ∷ []
  unfolding grid_of
  mosaic_refused = refl

  compact_done : replies_to ◌==◌ (Compact 0 ∷ Get whole 2 1 ∷ Compact 1 ∷ []) (padded ∷ []) ≡ Done ∷ Pixel 7 ∷ Refused NoImage ∷ []
  unfolding grid_of view
  compact_done = refl
