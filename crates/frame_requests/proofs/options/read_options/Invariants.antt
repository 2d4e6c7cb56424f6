use Rattle.std.proofs.Common.{length, ◌-◌, map}
use Rattle.frame_requests.specs.Options.{BeginWith}
use Rattle.frame_requests.proofs.options.read_options.Given as goal

abbrev pub decreases-loop-options : goal.decreases-loop-options
decreases-loop-options l = length l.words - l.options.first

abbrev pub invariant-loop-options : goal.invariant-loop-options
invariant-loop-options l = BeginWith (map (λ w. w.now) l.words) l.options
