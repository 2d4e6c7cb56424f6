use Rattle.std.proofs.Common.{◌≡◌, ◌≢◌, ◌<◌, None, drop}
use Rattle.frame_formats.specs.Steps.{step_in}
use Rattle.frame_formats.specs.Steps.{all_some, first_made}
use Rattle.frame_formats.proofs.StepsEach.{with_front}
use Rattle.frame_formats.proofs.settling.settle_all.Given as goal

-- the edits that are left, after those so far; the first of those has a step
abbrev pub invariant-loop-edit : goal.invariant-loop-edit
invariant-loop-edit l = record {
  left : with_front l.all.items (all_some (step_in l.unit l.rate l.width l.height) (drop l.edit-index l.edits)) ≡ all_some (step_in l.unit l.rate l.width l.height) l.edits;
  first : 0 < l.edit-index → first_made (step_in l.unit l.rate l.width l.height) l.edits ≢ None;
}
