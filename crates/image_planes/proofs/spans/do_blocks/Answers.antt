-- A block is passed over or done, or a group is passed over.
use Rattle.std.proofs.Common.{◌≡◌, ◌*◌, ◌∙◌, ℕ, List, take, drop, length, ap, sym, arith}
use Rattle.image_model.specs.Grid.{Grid, grid_of}
use Rattle.image_model.specs.Layout.{SameOutside}
use Rattle.image_model.proofs.Places.{outside_refl}
use Rattle.image_shape.specs.Shape.{shaped}
use Rattle.image_planes.specs.Changes.{stepped}
use Rattle.image_planes.specs.declared.change.Step.{Step}
use Rattle.image_planes.specs.declared.spans.Span.{Span}
use Rattle.image_planes.proofs.Blocks.{block_done, block_over, block_passed, block_skipped, drop_upto, group_over, next_at, take_upto}
use Rattle.image_planes.proofs.spans.do_blocks.Goals as goal
use Rattle.image_planes.proofs.spans.do_blocks.Goals.{then-has, else-has}

abbrev no_span : Span
no_span = record { first = 0; end = 0 }

pub bounds-groups-block : goal.bounds-groups-block
bounds-groups-block c =
    (group_over c.args.groups.now c.loop-left.block no_span c.args.steps.now c.loop-left.left.now c.requires.groups c.loop-left.invariant.at (grind arith)).0

pub loop-left-preserved-then-not-has : goal.loop-left-preserved-then-not-has
loop-left-preserved-then-not-has c =
    let a = c.args in
    let inv = c.loop-left.invariant in
    let left : List (Step (List ℕ)) = c.loop-left.left.now in
    let back : c.split_at.result.1.now ≡ drop 4096 left = c.split_at.ensures.back ∙ ap (λ k. drop k left) c.min.ensures ∙ drop_upto 4096 left in
    record {
      at = next_at (c.loop-left.block * 64) 4096 _ a.steps.now left c.split_at.result.1.now inv.at back (omega arith);
      steps = block_passed a.shape a.size a.number (length a.copy.now) (length a.sums.now) 4096 _ a.steps.now left c.split_at.result.1.now a.cells.now c.loop-left.cells inv.steps back
          ((group_over a.groups.now c.loop-left.block no_span a.steps.now left c.requires.groups inv.at (grind arith)).1 c.if-block-eq0.true) (sym c.has.ensures ∙ c.if-not-has.true);
    }

pub bounds-spans-block : goal.bounds-spans-block
bounds-spans-block c =
    (block_over c.args.spans.now c.loop-left.block no_span c.args.steps.now c.loop-left.left.now c.requires.spans c.loop-left.invariant.at (grind arith)).0

pub loop-left-preserved : goal.loop-left-preserved
loop-left-preserved c =
    let a = c.args in
    let inv = c.loop-left.invariant in
    let left : List (Step (List ℕ)) = c.loop-left.left.now in
    let split = c.split_at-else-block-eq0 in
    let front : split.result.0.now ≡ take 64 left = split.ensures.front ∙ ap (λ k. take k left) c.min-else-block-eq0.ensures ∙ take_upto 64 left in
    let back : split.result.1.now ≡ drop 64 left = split.ensures.back ∙ ap (λ k. drop k left) c.min-else-block-eq0.ensures ∙ drop_upto 64 left in
    let old : Grid ℕ = grid_of (shaped c.loop-left.cells a.shape) in
    let here = (block_over a.spans.now c.loop-left.block no_span a.steps.now left c.requires.spans inv.at (grind arith)).1 in
    let done : (grid_of (shaped c.if-has.cells a.shape) ≡ stepped a.size a.number (take 64 left) old) × SameOutside (shaped c.loop-left.cells a.shape) (shaped c.if-has.cells a.shape) =
    elim c.if-has.branch [
      | then-has w ↦ rw w.cells-is (w.do_steps.ensures.grid ∙ ap (λ ss. stepped a.size a.number ss old) front, w.do_steps.ensures.outside)
      | else-has w ↦ rw w.cells-is (sym (block_skipped a.size a.number _ (take 64 left) old here (sym c.has-else-block-eq0.ensures ∙ w.if-has.false)), outside_refl (shaped c.loop-left.cells a.shape))
    ] in
    record {
      at = next_at (c.loop-left.block * 64) 64 _ a.steps.now left split.result.1.now inv.at back (omega arith);
      steps = block_done a.shape a.size a.number (length a.copy.now) (length a.sums.now) 64 a.steps.now left split.result.1.now a.cells.now c.loop-left.cells c.if-has.cells inv.steps back done.0 done.1;
    }
