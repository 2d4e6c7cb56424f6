use Rattle.std.proofs.Common.{◌≡◌, ◌≢◌, ◌<◌, None, drop}
use Rattle.frame_formats.specs.Layers.{change_on}
use Rattle.frame_formats.specs.Steps.{all_some, first_made, step_by}
use Rattle.frame_formats.proofs.StepsEach.{with_front}
use Rattle.frame_formats.proofs.layers.plane_on.Given as goal

-- the steps that are left, after those so far; the first of those is one of the plane
abbrev pub invariant-loop-step : goal.invariant-loop-step
invariant-loop-step l = record {
  left : with_front l.made.items (all_some (step_by (change_on l.pixel l.layer l.width l.height)) (drop l.step-index l.steps)) ≡ all_some (step_by (change_on l.pixel l.layer l.width l.height)) l.steps;
  first : 0 < l.step-index → first_made (step_by (change_on l.pixel l.layer l.width l.height)) l.steps ≢ None;
}
