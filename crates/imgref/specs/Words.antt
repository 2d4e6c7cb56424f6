-- The words of contracts over images, for a caller to import from one place.
pub use Rattle.image_model.specs.Layout.{Fits, SameOutside}
pub use Rattle.image_model.specs.Grid.{grid_of, shown, view, patch, uniform, one_row}
pub use Rattle.image_model.specs.Rows.{row, grid_pixels, grid_rows}
pub use Rattle.image_model.specs.Windows.{window, window_view, IsInside}
pub use Rattle.image_model.specs.Tiles.{tiles, are_inside}
pub use Rattle.image_model.specs.Mapped.{mapped}
pub use Rattle.image_model.specs.Swaps.{rows_swapped}
pub use Rattle.image_model.specs.Flips.{flipped, flipped_upto}
pub use Rattle.image_model.specs.Tables.{table, table_upto, is_before}
pub use Rattle.image_model.specs.ByPlace.{mapped_places, zipped, from_places, scaled, HasResults}
pub use Rattle.image_model.specs.Boxes.{IsNowhere, IsBoundingBox, sides, sides_upto}
pub use Rattle.image_model.specs.Folds.{fold_upto}
pub use Rattle.image_model.specs.Counts.{histogram_of, counted, places_with, places_where}
pub use Rattle.image_model.specs.Connected.{beside, IsConnected, AreFilled, AllFilled, Flooding}
pub use Rattle.image_model.specs.Regions.{TellsApart, AreRegions}
pub use Rattle.image_model.specs.Sums.{area_sum, area_at, line_sum}
pub use Rattle.image_model.specs.Ranges.{AreBelow, HoldsOfEach}
pub use Rattle.image_model.specs.Turns.{columns_swapped, mirrored, transposed, turned_right, turned_half, turned_left}
pub use Rattle.image_ops.specs.Counting.{Decides, IsCount}
pub use Rattle.image_ops.specs.Hashing.{fed_by_rows}
pub use Rattle.image_turns.specs.Turned.{turned, turned_width, turned_height}
pub use Rattle.image_shape.specs.Window.{as_window}
pub use Rattle.image_shape.specs.Shape.{shaped, shape_width, shape_height}
pub use Rattle.imgref.specs.Image.{buf_of, OnlyCellsChange, SameBorrow, width_of, height_of, stride_of, vec_layout, ref_layout, mut_layout, layout_by, vec_grid, ref_grid, mut_grid, grid_by}
