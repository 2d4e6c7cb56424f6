use Rattle.std.proofs.Common.{take}
use Rattle.image_ops.specs.Counting.{IsCount}
use Rattle.image_ops.proofs.counting.count_in_block.Given as goal

abbrev pub invariant-loop-pixel : goal.invariant-loop-pixel
invariant-loop-pixel g l = goal.F-IsAlwaysCallable g l.f × IsCount (goal.F-post g l.f) (take l.pixel-index l.block) l.count
