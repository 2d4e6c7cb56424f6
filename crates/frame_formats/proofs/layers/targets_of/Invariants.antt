use Rattle.std.proofs.Common.{◌≡◌, ◌≢◌, ◌<◌, None, drop, map}
use Rattle.image_planes.specs.Targets.{resizing_of}
use Rattle.frame_formats.specs.Layers.{resizing_on, resizings_on}
use Rattle.frame_formats.specs.Steps.{first_made}
use Rattle.frame_formats.proofs.StepsEach.{with_front}
use Rattle.frame_formats.proofs.layers.targets_of.Given as goal

abbrev pub invariant-loop-layer : goal.invariant-loop-layer
invariant-loop-layer l = record {
  left : with_front (map resizing_of l.targets.items) (resizings_on l.pixel (drop l.layer-index l.layers) l.width l.height l.resize) ≡ resizings_on l.pixel l.layers l.width l.height l.resize;
  first : 0 < l.layer-index → first_made (λ layer. resizing_on l.pixel layer l.width l.height l.resize) l.layers ≢ None;
}
