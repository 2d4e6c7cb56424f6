use Rattle.imgref.specs.Window.{as_window}
use Rattle.imgref.specs.Lists.{grids_of}
use Rattle.image_commands.specs.Commands.{sizes_of}
use Rattle.imgref_replay.proofs.Copies.{no_copy_fault, blitted}
use Rattle.imgref_replay.proofs.step.blit.Goals as goal

pub returns : goal.returns
returns g c =
    let images = c.args.images.now in
    let source = c.args.source.now in
    let target = c.args.target.now in
    let from = as_window c.in_ok-from.from in
    let to = as_window c.in_ok-from.to in
    let windows = c.in_ok-from.ensures in
    let accepted = no_copy_fault source target (sizes_of (grids_of images)) from to windows.fault windows.first_window windows.second_window c.if-from-to.false c.if-from-to-2.false in
    blitted g.T.PartialEq.eq images _ source target from to accepted windows.first_window windows.second_window c.if-from-to.false c.if-from-to-2.false c.copy_between.ensures
