use Rattle.std.proofs.Common.{ap, ◌∙◌, refl, count_by}
use Rattle.image_model.specs.Grid.{view}
use Rattle.image_model.specs.Rows.{grid_pixels}
use Rattle.imgref.specs.Lists.{grids_of}
use Rattle.image_commands.specs.Commands.{view_named}
use Rattle.image_commands.specs.declared.commands.Reply.TheVariants.{Counted}
use Rattle.imgref_replay.proofs.Counts.{count_is}
use Rattle.imgref_replay.proofs.Steps.{asked}
use Rattle.imgref_replay.proofs.step.count.Goals as goal

pub returns : goal.returns
unfolding view
returns g c =
    let eq = g.T.PartialEq.eq in
    let counted =
    c.count_equal.ensures
    ∙ ap (λ g. count_by (λ pixel. eq pixel c.args.value) (grid_pixels g)) c.in_ok-view.ensures.view
    ∙ count_is eq c.args.value (view_named c.args.spot.now (grids_of c.args.images.now)) in
    asked eq _ _ _ c.in_ok-view.ensures.fault (ap (λ n. Counted n) counted) refl refl c.requires
