-- One plane after the other.
use Rattle.std.proofs.Common.{◌≡◌, ◌∙◌, Some, None, arith, map, sym}
use Rattle.std.proofs.lemmas.List.{map-append}
use Rattle.image_planes.specs.Targets.{resizing_of}
use Rattle.frame_formats.specs.Layers.{resizing_on}
use Rattle.frame_formats.specs.declared.layers.Layer.{Layer}
use Rattle.frame_formats.proofs.StepsEach.{one_more, one_stops, all_done, at_memory, first_more}
use Rattle.frame_formats.proofs.layers.targets_of.Goals as goal

pub returns-in_default-clause-fault : goal.returns-in_default-clause-fault
returns-in_default-clause-fault c =
    let a = c.args in
    one_stops (λ layer. resizing_on a.pixel layer a.width a.height a.resize) (map resizing_of c.loop-layer.targets.items) a.layers.now c.loop-layer.layer-index _ _ (omega arith) (sym c.in_default.ensures) c.loop-layer.invariant.left

pub returns-in_err-push-clause-memory : goal.returns-in_err-push-clause-memory
returns-in_err-push-clause-memory c =
    let a = c.args in
    let made = λ (layer : Layer). resizing_on a.pixel layer a.width a.height a.resize in
    at_memory c.from_residual.result (first_more made a.layers.now c.loop-layer.layer-index _ (omega arith) (λ none. let both : Some (resizing_of c.in-Some.target) ≡ None = c.in-Some.ensures ∙ none in absurd cc) c.loop-layer.invariant.first)

pub loop-layer-preserved : goal.loop-layer-preserved
loop-layer-preserved c =
    let a = c.args in
    record {
      left = rw (c.in_ok-push.ensures.items, map-append) (one_more (λ layer. resizing_on a.pixel layer a.width a.height a.resize) (map resizing_of c.loop-layer.targets.items) a.layers.now c.loop-layer.layer-index _ _ _ (omega arith) (sym c.in-Some.ensures) c.loop-layer.invariant.left);
      first = λ past. first_more (λ (layer : Layer). resizing_on a.pixel layer a.width a.height a.resize) a.layers.now c.loop-layer.layer-index _ (omega arith) (λ none. let both : Some (resizing_of c.in-Some.target) ≡ None = c.in-Some.ensures ∙ none in absurd cc) c.loop-layer.invariant.first;
    }

pub returns-clause-targets : goal.returns-clause-targets
returns-clause-targets c =
    let a = c.args in
    all_done (λ layer. resizing_on a.pixel layer a.width a.height a.resize) (map resizing_of c.loop-layer.targets.items) a.layers.now c.loop-layer.layer-index _ (omega arith) c.loop-layer.invariant.left
