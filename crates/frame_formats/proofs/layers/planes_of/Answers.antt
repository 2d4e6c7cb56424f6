-- One plane after the other.
use Rattle.std.proofs.Common.{arith, map}
use Rattle.std.proofs.lemmas.List.{map-append}
use Rattle.image_planes.specs.Planes.{job_of}
use Rattle.frame_formats.specs.Layers.{job_on}
use Rattle.frame_formats.specs.declared.layers.Layer.{Layer}
use Rattle.frame_formats.proofs.Started.{job_starts, starts_here}
use Rattle.frame_formats.proofs.StepsEach.{at_memory, one_more, one_stops, all_done, tells_more}
use Rattle.frame_formats.proofs.layers.planes_of.Goals as goal

pub returns-in_err-plane_on-clause-fault : goal.returns-in_err-plane_on-clause-fault
returns-in_err-plane_on-clause-fault c = grind (arith, one_stops, tells_more)

pub returns-in_err-plane_on-clause-memory : goal.returns-in_err-plane_on-clause-memory
returns-in_err-plane_on-clause-memory c = grind (arith, starts_here)

pub returns-in_err-push-clause-memory : goal.returns-in_err-push-clause-memory
returns-in_err-push-clause-memory c =
    let a = c.args in
    at_memory c.from_residual-in_err-push.result (starts_here a.pixel a.layers.now a.width a.height a.steps.now c.loop-layer.layer-index _ (omega arith) (job_starts a.pixel _ a.width a.height a.steps.now _ c.in_ok-plane_on.ensures.plane) c.loop-layer.invariant.first)

pub loop-layer-preserved : goal.loop-layer-preserved
loop-layer-preserved c =
    let a = c.args in
    let made = λ (layer : Layer). job_on a.pixel layer a.width a.height a.steps.now in
    record {
      left = rw (c.in_ok-push.ensures.items, map-append) (one_more made (map job_of c.loop-layer.planes.items) a.layers.now c.loop-layer.layer-index _ _ _ (omega arith) c.in_ok-plane_on.ensures.plane c.loop-layer.invariant.left);
      first = λ past. starts_here a.pixel a.layers.now a.width a.height a.steps.now c.loop-layer.layer-index _ (omega arith) (job_starts a.pixel _ a.width a.height a.steps.now _ c.in_ok-plane_on.ensures.plane) c.loop-layer.invariant.first;
    }

pub returns-clause-planes : goal.returns-clause-planes
returns-clause-planes c =
    let a = c.args in
    all_done (λ layer. job_on a.pixel layer a.width a.height a.steps.now) (map job_of c.loop-layer.planes.items) a.layers.now c.loop-layer.layer-index _ (omega arith) c.loop-layer.invariant.left
