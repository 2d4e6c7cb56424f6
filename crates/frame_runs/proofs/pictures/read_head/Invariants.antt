use Rattle.std.proofs.Common.{◌≡◌}
use Rattle.frame_runs.specs.Pictures.{HeadBegun}
use Rattle.devices.specs.Device.{device_of, failures_of}
use Rattle.frame_runs.proofs.pictures.read_head.Given as goal

-- the bytes so far are no whole head, except the last of them
abbrev pub invariant-loop-count : goal.invariant-loop-count
invariant-loop-count g l = record {
  begun : HeadBegun l._count l.scan (g.R.Read.remaining (device_of l.initial.reader)) (g.R.Read.remaining (device_of l.reader));
  read : failures_of l.reader ≡ failures_of l.initial.reader;
}
