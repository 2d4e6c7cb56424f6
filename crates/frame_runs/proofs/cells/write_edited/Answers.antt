-- What is written is what the frame becomes.
use Rattle.std.proofs.Common.{◌++◌, ℕ, List, OnErr, subst}
use Rattle.devices.specs.Device.{device_of}
use Rattle.devices.specs.Whole.{AppendsBeginning}
use Rattle.frame_runs.proofs.cells.write_edited.Goals as goal

pub returns-clause-beginning : goal.returns-clause-beginning
returns-clause-beginning g c =
    subst (λ (made : List ℕ). OnErr c.write_piece.result (AppendsBeginning (g.W.Write.contents (device_of c.args.writer.now)) (g.W.Write.contents (device_of c.write_piece.new.writer)) (c.args.head.now ++ made)))
    c.edit-made.ensures.frame c.write_piece.ensures.beginning
