use Rattle.std.proofs.Common.{◌≡◌, ◌-◌, ◌^◌, vec_len}
use Rattle.std.specs.Io.KnownBytes.{Consumes}
use Rattle.devices.specs.Device.{device_of, failures_of}
use Rattle.imgref_run.proofs.input.read_all.Given as goal

-- what was read so far is in memory, and nothing failed
abbrev pub invariant-loop-input : goal.invariant-loop-input
invariant-loop-input g l = record {
  read : Consumes (g.R.Read.remaining (device_of l.initial.reader)) (g.R.Read.remaining (device_of l.reader)) l.input.items;
  unfailing : failures_of l.reader ≡ failures_of l.initial.reader;
}

-- each iteration adds a byte, and a length has an end
abbrev pub decreases-loop-input : goal.decreases-loop-input
decreases-loop-input g l = 2 ^ 64 - vec_len l.input
