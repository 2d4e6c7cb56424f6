use Rattle.std.proofs.Common.{◌≡◌, ◌<◌, drop, map}
use Rattle.image_planes.specs.Planes.{job_of}
use Rattle.frame_formats.specs.Layers.{StartsOn, jobs_on}
use Rattle.frame_formats.proofs.StepsEach.{with_front}
use Rattle.frame_formats.proofs.layers.planes_of.Given as goal

abbrev pub invariant-loop-layer : goal.invariant-loop-layer
invariant-loop-layer l = record {
  left : with_front (map job_of l.planes.items) (jobs_on l.pixel (drop l.layer-index l.layers) l.width l.height l.steps) ≡ jobs_on l.pixel l.layers l.width l.height l.steps;
  first : 0 < l.layer-index → StartsOn l.pixel l.layers l.width l.height l.steps;
}
