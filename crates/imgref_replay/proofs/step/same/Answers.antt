use Rattle.std.proofs.Common.{refl, ap}
use Rattle.image_model.specs.Grid.{view}
use Rattle.imgref.specs.Image.{ref_layout}
use Rattle.imgref.specs.Lists.{grids_of}
use Rattle.image_commands.specs.Commands.{view_named}
use Rattle.image_commands.specs.declared.commands.Reply.TheVariants.{Truth}
use Rattle.imgref_replay.proofs.PlaceTests.{views_tested}
use Rattle.imgref_replay.proofs.Steps.{asked}
use Rattle.imgref_replay.proofs.step.same.Goals as goal

pub returns : goal.returns
unfolding view
returns g c =
    let eq = g.T.PartialEq.eq in
    let grids = grids_of c.args.images.now in
    let one = c.show-one in
    let two = c.show-two in
    let told = views_tested eq (ref_layout one.result) (ref_layout two.result) (view_named c.args.first.now grids) (view_named c.args.second.now grids) c.same_pixels.result
    one.ensures.fits two.ensures.fits c.same_pixels.ensures.places one.ensures.view two.ensures.view in
    asked eq _ _ _ c.in_ok-windows.ensures.fault (ap (λ b. Truth b) told) refl refl c.requires
