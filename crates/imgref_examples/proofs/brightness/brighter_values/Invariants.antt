-- The values before this one are in the table.
use Rattle.std.proofs.Common.{◌≡◌, ◌<◌, ℕ, slice_index, length}
use Rattle.imgref_examples.specs.Brightness.{brighter}
use Rattle.imgref_examples.proofs.brightness.brighter_values.Given as goal

abbrev pub invariant-loop-v : goal.invariant-loop-v
invariant-loop-v l = (length l.table ≡ 256) × ((w : ℕ) → w < l.v → slice_index l.table w ≡ brighter l.by w)
