use Rattle.std.proofs.Common.{◌≡◌, ◌+◌, get_or, ap, ◌∙◌, refl}
use Rattle.image_model.specs.Grid.{grid_of, patch, uniform}
use Rattle.imgref.specs.Image.{vec_layout}
use Rattle.imgref.specs.Lists.{grids_of}
use Rattle.image_commands.specs.Commands.{sizes_of, window_named}
use Rattle.imgref_replay.proofs.Images.{fits_at, place_at}
use Rattle.imgref_replay.proofs.Steps.{wrote}
use Rattle.imgref_replay.proofs.step.put.Goals as goal

pub put-requires : goal.put-requires
put-requires g c =
    let images = c.args.images.now in
    let i = c.args.spot.now.image in
    let is = ap (get_or images i) c.index-images-spot.is in
    let found = c.in_ok-column.ensures in
    let inside = place_at images i _ _ _ found.image is (found.place.column_inside, found.place.row_inside) in
    record { fits = fits_at images i _ found.image is c.requires; column = inside.0; row = inside.1 }

pub returns : goal.returns
unfolding uniform
returns g c =
    let images = c.args.images.now in
    let spot = c.args.spot.now in
    let value = c.args.value in
    let old = get_or images spot.image c.index-images-spot.result in
    let is : old ≡ get_or images spot.image old = ap (get_or images spot.image) c.index-images-spot.is in
    let found = c.in_ok-column.ensures in
    let place = found.place in
    let shows : grid_of (vec_layout c.put.new.self) ≡ patch (grid_of (vec_layout old)) ((window_named spot (sizes_of (grids_of images))).left + c.args.x) ((window_named spot (sizes_of (grids_of images))).top + c.args.y) (uniform 1 1 value) =
    c.put.ensures.grid ∙ (λ k. patch (grid_of (vec_layout old)) (place.column_is k) (place.row_is k) (uniform 1 1 value)) in
    wrote g.T.PartialEq.eq _ images spot old c.put.new.self (window_named spot (sizes_of (grids_of images))) (λ w h. patch h (w.left + c.args.x) (w.top + c.args.y) (uniform 1 1 value))
    found.image is refl shows c.put.ensures.outside c.put.ensures.fits c.requires found.fault refl refl refl
