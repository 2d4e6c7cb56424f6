-- The reader failed within the line.
use Rattle.devices.specs.Device.{device_of}
use Rattle.frame_runs.specs.Request.{edits_of}
use Rattle.frame_runs.proofs.Failing.{first_line_failed}
use Rattle.frame_runs.proofs.program.carry_video.Goals as goal

pub returns-in-Err-Reader-clause-fails : goal.returns-in-Err-Reader-clause-fails
returns-in-Err-Reader-clause-fails g c =
    first_line_failed (edits_of c.args.request) c.args.first _ c.requires.kind c.if-first-eq10.false (g.R.Read.remaining (device_of c.args.reader.now)) (g.R.Read.remaining (device_of c.read_line.new.reader)) (g.W.Write.contents (device_of c.args.writer.now))
    (rw c.in-Err-Reader.field-0-is at c.in-Err-Reader.ensures.fault)
