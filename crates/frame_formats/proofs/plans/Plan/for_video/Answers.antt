-- An edit is bad, so there is no recipe.
use Rattle.std.proofs.Common.{sym, ◌∙◌}
use Rattle.frame_edits.specs.Edits.{edits}
use Rattle.frame_formats.proofs.SuitingEdits.{unsuited_video}
use Rattle.frame_formats.proofs.plans.Plan.for_video.Goals as goal

pub returns-else-suits_video-clause-fault : goal.returns-else-suits_video-clause-fault
returns-else-suits_video-clause-fault c = unsuited_video (edits c.args.steps.now c.args.framing) c.args.line.now c.args.format c.requires (sym c.suits_video.ensures ∙ c.if-suits_video.false)
