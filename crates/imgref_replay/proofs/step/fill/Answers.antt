use Rattle.std.proofs.Common.{get_or, ap, refl}
use Rattle.image_model.specs.Grid.{patch, uniform}
use Rattle.imgref.specs.Window.{as_window}
use Rattle.imgref_replay.proofs.Images.{fits_at, inside_at}
use Rattle.imgref_replay.proofs.Steps.{wrote}
use Rattle.imgref_replay.proofs.step.fill.Goals as goal

pub fill_inside-requires : goal.fill_inside-requires
fill_inside-requires g c =
    let images = c.args.images.now in
    let i = c.args.spot.now.image in
    let is = ap (get_or images i) c.index-images-spot.is in
    record {
      fits = fits_at images i _ c.in_ok-window.ensures.image is c.requires;
      inside = inside_at images i _ (as_window c.in_ok-window.window) c.in_ok-window.ensures.image is c.in_ok-window.ensures.inside;
    }

pub returns : goal.returns
unfolding uniform
returns g c =
    let images = c.args.images.now in
    let spot = c.args.spot.now in
    let is = ap (get_or images spot.image) c.index-images-spot.is in
    wrote g.T.PartialEq.eq _ images spot _ c.fill_inside.new.self (as_window c.in_ok-window.window) (λ w h. patch h w.left w.top (uniform w.width w.height c.args.value))
    c.in_ok-window.ensures.image is c.in_ok-window.ensures.window c.fill_inside.ensures.grid c.fill_inside.ensures.outside c.fill_inside.ensures.fits c.requires c.in_ok-window.ensures.fault refl refl refl
