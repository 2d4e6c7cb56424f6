-- Worked images, computed: what the definitions say of small layouts that a reader can check by hand.
use Rattle.std.proofs.Common.{◌≡◌, ◌^◌, ◌-◌, true, false, ℕ, Some, None, List, [], ◌∷◌, refl, nat_eq}
use Rattle.std.specs.Hash as fed
use Rattle.image_model.specs.Layout.{Layout, layout, is_fitting, pixel}
use Rattle.image_model.specs.Grid.{grid_of}
use Rattle.image_model.specs.Rows.{rows, row, joined_rows, pixels, grid_pixels, grid_joined_rows}
use Rattle.image_model.specs.Windows.{window, padded_window}
use Rattle.image_model.specs.Alike.{is_alike, fed_by}
use Rattle.image_model.specs.Compaction.{IsPacked}
use Rattle.image_model.specs.Tiles.{tiles, tile_start}

-- ---- three images

-- an image of numbers
abbrev pub image : List ℕ → ℕ → ℕ → ℕ → Layout ℕ
image cells width height stride = layout cells width height stride

-- 3 by 2 at stride 4, with cells past the last pixel
abbrev pub padded : Layout ℕ
padded = image (1 ∷ 2 ∷ 3 ∷ 4 ∷ 5 ∷ 6 ∷ 7 ∷ 8 ∷ 9 ∷ []) 3 2 4

-- 3 by 3 at stride 4, ending at the last pixel
abbrev pub exact : Layout ℕ
exact = image (1 ∷ 2 ∷ 3 ∷ 0 ∷ 4 ∷ 5 ∷ 6 ∷ 0 ∷ 7 ∷ 8 ∷ 9 ∷ []) 3 3 4

-- 2 by 2 at stride 3, with three cells past the last pixel
abbrev small : Layout ℕ
small = image (1 ∷ 2 ∷ 3 ∷ 4 ∷ 5 ∷ 6 ∷ 7 ∷ 8 ∷ []) 2 2 3

-- ---- rows and pixels

-- the rows leave the padding out
padded_rows : rows padded ≡ (1 ∷ 2 ∷ 3 ∷ []) ∷ (5 ∷ 6 ∷ 7 ∷ []) ∷ []
padded_rows = refl

-- the pixels go row by row
padded_pixels : pixels padded ≡ 1 ∷ 2 ∷ 3 ∷ 5 ∷ 6 ∷ 7 ∷ []
padded_pixels = refl

-- the grid has the same pixels
padded_grid_pixels : grid_pixels (grid_of padded) ≡ 1 ∷ 2 ∷ 3 ∷ 5 ∷ 6 ∷ 7 ∷ []
unfolding grid_of
padded_grid_pixels = refl

-- a row by its number
second_row : row small 1 ≡ 4 ∷ 5 ∷ []
second_row = refl

-- the cell of column 1 of row 2 is there, and past the height
past_the_height : pixel small 1 2 ≡ Some 8
past_the_height = refl

-- but no place of the grid
not_in_the_grid : (grid_of small).pixel 1 2 ≡ None
unfolding grid_of
not_in_the_grid = refl

-- nor is column 2 of row 0, a cell of padding
padding_not_in_the_grid : (grid_of small).pixel 2 0 ≡ None
unfolding grid_of
padding_not_in_the_grid = refl

-- the joined rows of the grid are those of the cells
exact_joined : grid_joined_rows (grid_of exact) ≡ joined_rows exact
unfolding grid_of
exact_joined = refl

-- ---- no width, no height

-- with no column there is no row, whatever the height
no_columns : rows (image (9 ∷ 9 ∷ []) 0 2 1) ≡ []
no_columns = refl

-- with no row there is none
no_rows : rows (image [] 2 0 2) ≡ []
no_rows = refl

-- a packed image of width 0 has stride 1
packed_empty : IsPacked (image [] 0 2 1)
packed_empty = record { stride_is = refl; joined = refl }

-- ---- strides near the greatest number

-- one pixel fits at any stride
one_pixel_fits : is_fitting (image (5 ∷ []) 1 1 (2 ^ 64 - 1)) ≡ true
one_pixel_fits = refl

-- its window has that one cell
one_pixel_window : (padded_window (image (5 ∷ []) 1 1 (2 ^ 64 - 1)) (window 0 0 1 1)).cells ≡ 5 ∷ []
one_pixel_window = refl

-- two rows at that stride don't fit into one cell
two_rows_unfit : is_fitting (image (7 ∷ []) 2 2 (2 ^ 64 - 1)) ≡ false
two_rows_unfit = refl

-- where twice the stride is 2 ^ 64 the sum doesn't overflow to a fit
wrapped_sum_unfit : is_fitting (image (7 ∷ []) 1 3 (2 ^ 63)) ≡ false
wrapped_sum_unfit = refl

-- an image without a pixel fits into no cell
empty_fits : is_fitting (image [] 0 3 1) ≡ true
empty_fits = refl

-- ---- equality

-- padding doesn't tell images apart
padding_alike : is_alike nat_eq (image (0 ∷ 1 ∷ 255 ∷ 2 ∷ 3 ∷ 255 ∷ []) 2 2 3) (image (0 ∷ 1 ∷ 255 ∷ 2 ∷ 3 ∷ []) 2 2 3) ≡ true
padding_alike = refl

-- sizes do, though the pixels are the same one after the other
sizes_unlike : is_alike nat_eq (image (0 ∷ 1 ∷ 2 ∷ 3 ∷ []) 2 2 2) (image (0 ∷ 1 ∷ 2 ∷ 3 ∷ []) 4 1 4) ≡ false
sizes_unlike = refl

-- also where there is no pixel
empty_sizes_unlike : is_alike nat_eq (image [] 0 3 1) (image [] 0 5 1) ≡ false
empty_sizes_unlike = refl

-- images that don't fit are alike if their sizes are equal
unfit_alike : is_alike nat_eq (image (7 ∷ []) 2 2 (2 ^ 64 - 1)) (image [] 2 2 2) ≡ true
unfit_alike = refl

-- and differ from every image that fits
unfit_unlike : is_alike nat_eq (image (7 ∷ []) 2 2 (2 ^ 64 - 1)) (image (1 ∷ 2 ∷ 3 ∷ 4 ∷ []) 2 2 2) ≡ false
unfit_unlike = refl

-- ---- what a hasher is fed

-- padding isn't fed
same_feed : fed_by fed.u8 (image (0 ∷ 1 ∷ 255 ∷ 2 ∷ 3 ∷ 255 ∷ []) 2 2 3) ≡ fed_by fed.u8 (image (0 ∷ 1 ∷ 255 ∷ 2 ∷ 3 ∷ []) 2 2 3)
same_feed = refl

-- an image that doesn't fit feeds its size alone
unfit_feed : fed_by fed.u8 (image (7 ∷ []) 2 2 (2 ^ 64 - 1)) ≡ fed_by fed.u8 (image [] 2 2 2)
unfit_feed = refl

-- ---- tiles

-- nine places in tiles of four
tiles_of_three : tiles 3 3 2 2 ≡ window 0 0 2 2 ∷ window 2 0 1 2 ∷ window 0 2 2 1 ∷ window 2 2 1 1 ∷ []
tiles_of_three = refl

-- a tile as wide as the size and higher
one_tile : tiles 5 1 5 9 ≡ window 0 0 5 1 ∷ []
one_tile = refl

-- a size with no column has none
no_column_no_tile : tiles 0 3 2 2 ≡ []
no_column_no_tile = refl

-- nor has one with no row
no_row_no_tile : tiles 3 0 2 2 ≡ []
no_row_no_tile = refl

-- the tile of column 2 begins there, that of column 1 at 0
starts_of_tiles : tile_start 2 2 ∷ tile_start 2 1 ∷ [] ≡ 2 ∷ 0 ∷ []
starts_of_tiles = refl
