use Rattle.std.proofs.Common.{◌≡◌, ◌-◌, ◌+◌, ◌^◌, ◌≤◌, length, max, take}
use Rattle.std.specs.Prelude.{vec_capacity}
use Rattle.std.specs.Io.KnownBytes.{Consumes}
use Rattle.devices.proofs.growing.fill_front.Given as goal

-- the buffer up to here was read
abbrev pub invariant-loop-filled : goal.invariant-loop-filled
invariant-loop-filled g l = record {
  within : l.filled ≤ l.size;
  len : l.filled ≤ length l.buffer.items;
  read : Consumes (g.R.Read.remaining l.initial.reader.device) (g.R.Read.remaining l.reader.device) (take l.filled l.buffer.items);
  ahead : length l.buffer.items ≤ max (length l.initial.buffer.items) (l.filled + 2 ^ 20);
  most : length l.buffer.items ≤ max (length l.initial.buffer.items) l.size;
  capacity : vec_capacity l.initial.buffer ≤ vec_capacity l.buffer;
  unfailing : l.reader.failures ≡ l.initial.reader.failures;
}

abbrev pub decreases-loop-filled : goal.decreases-loop-filled
decreases-loop-filled g l = l.size - l.filled
