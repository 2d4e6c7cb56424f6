-- The head is written before the cells.
use Rattle.std.proofs.Common.{Result, Ok, Err, OnErr}
use Rattle.devices.specs.Device.{device_of}
use Rattle.frame_runs.proofs.FrameLines.{begun}
use Rattle.frame_runs.proofs.cells.write_piece.Goals as goal

at_fault : {T E P Q : Type 0} (r : Result T E) → (P → Q) → OnErr r P → OnErr r Q
at_fault (Ok x) f p = p
at_fault (Err e) f p = f p

pub returns-in-Ok-clause-beginning : goal.returns-in-Ok-clause-beginning
returns-in-Ok-clause-beginning g c = at_fault c.write_all-in-Ok.result
    (begun (g.W.Write.contents (device_of c.args.writer.now)) (g.W.Write.contents (device_of c.write_all.new.writer)) (g.W.Write.contents (device_of c.write_all-in-Ok.new.writer)) c.args.head.now c.args.cells.now c.in-Ok.ensures.whole)
    c.write_all-in-Ok.ensures.beginning
