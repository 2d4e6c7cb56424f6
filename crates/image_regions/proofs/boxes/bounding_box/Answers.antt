use Rattle.std.proofs.Common.{◌≡◌, ◌∙◌, true, false, ap, arith}
use Rattle.imgref.specs.Words.{as_window, ref_layout}
use Rattle.image_model.specs.Boxes.{with_place}
use Rattle.image_model.proofs.Boxes.{box_more, box_skip, box_window}
use Rattle.image_regions.proofs.boxes.bounding_box.Goals.{then-eq, else-eq}
use Rattle.image_regions.proofs.boxes.bounding_box.Goals as goal

pub loop-x-preserved : goal.loop-x-preserved
loop-x-preserved g c =
    let at = box_more g.T.PartialEq.eq (ref_layout c.args.image) c.args.value c.loop-x.x c.loop-y.y c.index.result.now c.index.ensures in
    let past = box_skip g.T.PartialEq.eq (ref_layout c.args.image) c.args.value c.loop-x.x c.loop-y.y c.index.result.now c.index.ensures in
    elim c.if-eq.branch [
      | then-eq w ↦
          let holds : g.T.PartialEq.eq c.index.result.now c.args.value ≡ true = grind (arith, c.eq.ensures, w.if-eq) in
          let more = at holds ∙ ap (λ s. with_place s c.loop-x.x c.loop-y.y) c.loop-x.invariant in
          let is = w.with_place-sides.ensures in
          rw (w.sides-is, is.left, is.top, is.right, is.bottom) more
      | else-eq w ↦
          let fails : g.T.PartialEq.eq c.index.result.now c.args.value ≡ false = grind (arith, c.eq.ensures, w.if-eq) in
          let same = past fails ∙ c.loop-x.invariant in
          rw w.sides-is same
    ]

pub returns-clause-framed : goal.returns-clause-framed
returns-clause-framed g c = box_window g.T.PartialEq.eq (ref_layout c.args.image) c.args.value c.requires.tells c.loop-y.y _ _ _ _ c.loop-y.invariant (omega arith) (omega arith) (as_window c.new.result) c.new.ensures
