use Rattle.std.proofs.Common.{◌≡◌}
use Rattle.imgref.specs.Words.{sides, sides_upto, ref_layout}
use Rattle.image_regions.proofs.boxes.bounding_box.Given as goal

abbrev pub invariant-loop-x : goal.invariant-loop-x
invariant-loop-x g l = sides_upto g.T.PartialEq.eq (ref_layout l.fn.image) l.fn.value l.x l.y ≡ sides l.sides.left l.sides.top l.sides.right l.sides.bottom

abbrev pub invariant-loop-y : goal.invariant-loop-y
invariant-loop-y g l = sides_upto g.T.PartialEq.eq (ref_layout l.fn.image) l.fn.value 0 l.y ≡ sides l.sides.left l.sides.top l.sides.right l.sides.bottom
