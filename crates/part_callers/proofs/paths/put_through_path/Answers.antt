-- A pixel put in the window of a path is put at the sum of the corners plus its place.
use Rattle.std.proofs.Common.{ℕ, ◌+◌, ◌≤◌, List, ap, ◌∙◌, arith}
use Rattle.image_model.specs.Grid.{Grid, grid_of, patch, uniform}
use Rattle.image_model.specs.Windows.{Window, corner_left, corner_top, path_width, path_height}
use Rattle.image_model.proofs.Patches.{fill_in_view}
use Rattle.imgref.specs.Image.{width_of, height_of, layout_by}
use Rattle.imgref.specs.Window.{as_path}
use Rattle.part_callers.proofs.paths.put_through_path.Goals as goal

pub returns-clause-grid : goal.returns-clause-grid
unfolding grid_of patch uniform
returns-clause-grid g c =
    let path : List Window = as_path c.args.path.now in
    let all : Grid g.row.C-Item.Denot = grid_of (layout_by g.C.AsSlice.cells c.args.image.now) in
    let window = c.parts_at-cells.ensures.window in
    let x : ℕ = c.args.place.0 in
    let y : ℕ = c.args.place.1 in
    let width : ℕ = path_width (width_of c.args.image.now) path in
    let height : ℕ = path_height (height_of c.args.image.now) path in
    let across : x + 1 ≤ width = omega (arith, c.requires.column) in
    let down : y + 1 ≤ height = omega (arith, c.requires.row) in
    window.grid c.put_pixel.new.cells c.put_pixel.ensures.outside
    ∙ ap (patch all (corner_left path) (corner_top path)) (c.put_pixel.ensures.grid ∙ ap (λ (v : Grid g.row.C-Item.Denot). patch v x y (uniform 1 1 c.args.value)) window.shows)
    ∙ fill_in_view all (corner_left path) (corner_top path) width height x y 1 1 c.args.value across down
