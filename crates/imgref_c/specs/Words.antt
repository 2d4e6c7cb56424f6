-- The words of the contracts of calls, to import from one place.
pub use Rattle.image_model.specs.Layout.{layout}
pub use Rattle.image_model.specs.Grid.{grid_of, uniform, Agree}
pub use Rattle.image_model.specs.Counts.{histogram_of}
pub use Rattle.image_model.specs.Rows.{grid_pixels}
pub use Rattle.image_model.specs.Regions.{TellsApart}
pub use Rattle.image_model.specs.Tables.{table}
pub use Rattle.image_model.specs.Flips.{flipped}
pub use Rattle.image_model.specs.Swaps.{rows_swapped}
pub use Rattle.image_model.specs.Windows.{exact_stretch, IsInside}
pub use Rattle.image_model.specs.Tiles.{tiles}
pub use Rattle.image_writes.specs.Mosaic.{mosaic as mosaic_of, mosaic_by}
pub use Rattle.image_turns.specs.Oriented.{oriented}
pub use Rattle.image_writes.specs.Mirrored.{mirrored_by}
pub use Rattle.image_turns.specs.declared.pixel_turning.Orientation.TheVariants.{Transposed}
pub use Rattle.image_ops.specs.PixelCounts.{times_shown}
pub use Rattle.image_means.specs.Means.{mean_mosaic as means_of, mean_mosaic_by as means_by}
pub use Rattle.image_ops.specs.Repeated.{repeated}
pub use Rattle.imgref.specs.Words.{area_at}
pub use Rattle.image_regions.specs.Levels.{equalized}
pub use Rattle.image_shape.specs.Window.{as_window}
pub use Rattle.imgref_c.specs.Turns.{is_turn, turn_by}
pub use Rattle.imgref_c.specs.declared.status.Status.TheVariants.{NoTurn}
pub use Rattle.imgref_c.specs.Status.{code, first, is_image as passes, IsImage, image_status, place_status, window_status, copy_status, move_status, pair_status, integral_status, flood_status, labels_status, mosaic_status, is_pixel_image, IsPixelImage, in_cells, pixel_window_status, pixel_mosaic_status, oriented_status, oriented_in_place_status, turn_status, turn_in_place_status, rows_status, tiles_status, tile_status}
pub use Rattle.imgref_c.specs.Numbering.{Numbered}
pub use Rattle.imgref_c.specs.Claims.{window_status_of, mosaic_status_of, move_status_of, seen_in, WritesIn, part_status, tiled_status, into_status, in_place_status, shown_by, ChangesPart, WritesAll, IsPart}
pub use Rattle.imgref_c.specs.Calls.{seen, Writes, Packs, Finds, Gives, Fills, Labels, IsBox}
pub use Rattle.imgref_c.specs.Blurs.{blur_status, blur_status_of, boxes_of, copy_room, sums_room, KeepsRoom}
