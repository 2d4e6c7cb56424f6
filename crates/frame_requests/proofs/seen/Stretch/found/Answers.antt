-- No frame of the stretch is such.
use Rattle.std.proofs.Common.{sym, subst}
use Rattle.frame_requests.specs.Seen.{FirstFound}
use Rattle.frame_requests.proofs.seen.Stretch.found.Goals as goal

pub returns-in_err-frame : goal.returns-in_err-frame
returns-in_err-frame c = subst (FirstFound c.args.self c.args.edit.now) (sym c.from_residual.ensures) (c.uncovered.ensures.none c.in_err-frame.was)
