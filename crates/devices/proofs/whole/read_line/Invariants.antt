use Rattle.std.proofs.Common.{◌≡◌, ◌≢◌, take, All}
use Rattle.std.specs.Io.KnownBytes.{Consumes}
use Rattle.devices.proofs.whole.read_line.Given as goal

-- so many bytes were read, and none of them is a line feed
abbrev pub invariant-loop-at : goal.invariant-loop-at
invariant-loop-at g l = record {
  read : Consumes (g.R.Read.remaining l.initial.reader.device) (g.R.Read.remaining l.reader.device) (take l.at l.line);
  one_line : All (λ b. b ≢ 10) (take l.at l.line);
  unfailing : l.reader.failures ≡ l.initial.reader.failures;
}
