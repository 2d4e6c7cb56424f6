use Rattle.std.proofs.Common.{◌≡◌, ◌+◌, Some, ap, sym, ◌∙◌, arith, refl}
use Rattle.std.specs.Option.{option_map_or}
use Rattle.image_model.specs.Grid.{grid_of, view}
use Rattle.image_model.proofs.Grids.{at_place, pixel_at}
use Rattle.image_model.proofs.Places.{cell_within}
use Rattle.imgref.specs.Image.{vec_layout}
use Rattle.imgref.specs.Lists.{grids_of}
use Rattle.image_commands.specs.Commands.{grid_at, sizes_of, window_named, view_named}
use Rattle.image_commands.specs.declared.commands.Reply.TheVariants.{Pixel, Done}
use Rattle.imgref_replay.proofs.Images.{fits_at, place_at, grid_at-images}
use Rattle.imgref_replay.proofs.Steps.{asked}
use Rattle.imgref_replay.proofs.step.get.Goals as goal

pub index-requires : goal.index-requires
index-requires g c =
    let images = c.args.images.now in
    let i = c.args.spot.now.image in
    let found = c.in_ok-place.ensures in
    let image = c.index-images-spot.result in
    let inside = place_at images i image _ _ found.image c.index-images-spot.is (found.place.column_inside, found.place.row_inside) in
    (omega (arith, inside.0, image.holds_width), cell_within (vec_layout image) (fits_at images i image found.image c.index-images-spot.is c.requires) _ _ inside.0 inside.1)

pub returns : goal.returns
unfolding view
returns g c =
    let images = c.args.images.now in
    let grids = grids_of images in
    let spot = c.args.spot.now in
    let image = c.index-images-spot.result in
    let found = c.in_ok-place.ensures in
    let place = found.place in
    let there = found.image in
    let is = c.index-images-spot.is in
    let w = window_named spot (sizes_of grids) in
    let inside = place_at images spot.image image _ _ there is (place.column_inside, place.row_inside) in
    let pixel : (view_named spot grids).pixel c.args.x c.args.y ≡ Some c.index.result.now =
    at_place w.width w.height (λ x y. (grid_at grids spot.image).pixel (w.left + x) (w.top + y)) c.args.x c.args.y place.x_within place.y_within
    ∙ ap (λ h. h.pixel (w.left + c.args.x) (w.top + c.args.y)) (grid_at-images images spot.image image there is)
    ∙ (λ k. (grid_of (vec_layout image)).pixel (sym place.column_is k) (sym place.row_is k))
    ∙ pixel_at (vec_layout image) _ _ inside.0 inside.1
    ∙ c.index.ensures in
    asked g.T.PartialEq.eq _ _ _ found.fault (sym (ap (λ o. option_map_or (λ p. Pixel p) o Done) pixel)) refl refl c.requires
