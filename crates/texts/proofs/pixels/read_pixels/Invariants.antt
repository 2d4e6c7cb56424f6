-- What was read comes before what is left.
use Rattle.std.proofs.Common.{◌≡◌, length}
use Rattle.std.specs.Io.{StartsWith}
use Rattle.texts.specs.Parts.{parts_of}
use Rattle.texts.specs.Reading.{pixel_of, each_of, with_front}
use Rattle.texts.proofs.pixels.read_pixels.Given as goal

abbrev pub invariant-loop-rest : goal.invariant-loop-rest
invariant-loop-rest g l = record {
  read : with_front l.values.items (each_of pixel_of (parts_of l.separator l.rest)) ≡ with_front l.initial.values.items (each_of pixel_of (parts_of l.separator l.initial.rest));
  kept : StartsWith l.values.items l.initial.values.items;
  some : length l.some ≡ 40;
}

abbrev pub decreases-loop-rest : goal.decreases-loop-rest
decreases-loop-rest g l = length l.rest
