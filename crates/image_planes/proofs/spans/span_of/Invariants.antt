use Rattle.std.proofs.Common.{◌≡◌, true, take}
use Rattle.image_planes.specs.Spans.{has_all}
use Rattle.image_planes.proofs.spans.span_of.Given as goal

-- the span of the steps so far
abbrev pub invariant-loop-step : goal.invariant-loop-step
invariant-loop-step l = has_all l.span (take l.step-index l.block) ≡ true
