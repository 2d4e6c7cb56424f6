use Rattle.std.proofs.Common.{get_or, ap, refl, arith}
use Rattle.image_model.specs.Grid.{patch, view}
use Rattle.image_model.specs.Windows.{window_view}
use Rattle.imgref.specs.Window.{as_window}
use Rattle.imgref.specs.Lists.{grids_of}
use Rattle.image_commands.specs.Commands.{sizes_of}
use Rattle.imgref.specs.Mosaic.{mosaic}
use Rattle.imgref_replay.proofs.Images.{fits_at, inside_at}
use Rattle.imgref_replay.proofs.Steps.{no_tile_fault, wrote}
use Rattle.imgref_replay.proofs.step.mosaic.Goals as goal

pub mosaic_inside-requires-clause-fits : goal.mosaic_inside-requires-clause-fits
mosaic_inside-requires-clause-fits g c = grind (arith, fits_at)

pub mosaic_inside-requires-clause-inside : goal.mosaic_inside-requires-clause-inside
mosaic_inside-requires-clause-inside g c =
    let images = c.args.images.now in
    let i = c.args.spot.now.image in
    inside_at images i _ (as_window c.in_ok-window.window) c.in_ok-window.ensures.image (ap (get_or images i) c.index-images-spot.is) c.in_ok-window.ensures.inside

pub returns : goal.returns
unfolding view
returns g c =
    let a = c.args in
    let images = a.images.now in
    let spot = a.spot.now in
    let found = c.in_ok-window.ensures in
    let accepted = no_tile_fault spot a.tile_width a.tile_height (sizes_of (grids_of images)) found.fault c.if-tile_width-eq0.false c.if-tile_height-eq0.false in
    wrote g.T.PartialEq.eq _ images spot _ c.mosaic_inside.new.self (as_window c.in_ok-window.window) (λ w h. patch h w.left w.top (mosaic a.tile_width a.tile_height (window_view h w)))
    found.image (ap (get_or images spot.image) c.index-images-spot.is) found.window c.mosaic_inside.ensures.grid c.mosaic_inside.ensures.outside c.mosaic_inside.ensures.fits c.requires accepted refl refl refl
