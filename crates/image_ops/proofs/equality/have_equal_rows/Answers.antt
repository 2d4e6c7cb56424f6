-- The rows are equal if each of them is.
use Rattle.std.proofs.Common.{◌≡◌, ◌<◌, true, false, arith, sym, ap, ◌∙◌}
use Rattle.std.specs.Cmp.Lexicographic.{pointwise}
use Rattle.image_model.specs.Rows.{row, row_count}
use Rattle.image_shape.specs.Shape.{shaped}
use Rattle.image_ops.proofs.FirstRows.{equal_upto, one_equal, one_differs, all_equal}
use Rattle.image_ops.proofs.equality.have_equal_rows.Goals as goal

pub returns-then-not-are_equal_lines : goal.returns-then-not-are_equal_lines
returns-then-not-are_equal_lines g c =
    let a = shaped c.args.first.now c.args.first_shape in
    let b = shaped c.args.second.now c.args.second_shape in
    let below : c.loop-y.y < row_count a.width a.height = omega (arith, c.row_count-y-end.ensures.value) in
    let d : pointwise g.T.PartialEq.eq (row a c.loop-y.y) (row b c.loop-y.y) ≡ false = rw (← c.row-line.ensures.value, ← c.row-other.ensures.value) (grind arith) in
    sym (one_differs g.T.PartialEq.eq a b c.requires.sizes.width c.requires.sizes.height c.loop-y.y below d)

pub loop-y-preserved : goal.loop-y-preserved
loop-y-preserved g c =
    let a = shaped c.args.first.now c.args.first_shape in
    let b = shaped c.args.second.now c.args.second_shape in
    let d : pointwise g.T.PartialEq.eq (row a c.loop-y.y) (row b c.loop-y.y) ≡ true = rw (← c.row-line.ensures.value, ← c.row-other.ensures.value) (grind arith) in
    one_equal g.T.PartialEq.eq a b c.loop-y.y c.loop-y.invariant d

pub returns : goal.returns
returns g c =
    let a = shaped c.args.first.now c.args.first_shape in
    let b = shaped c.args.second.now c.args.second_shape in
    let all : row_count a.width a.height ≡ c.loop-y.y = omega (arith, c.row_count-y-end.ensures.value) in
    sym (all_equal g.T.PartialEq.eq a b c.requires.sizes.width c.requires.sizes.height ∙ ap (equal_upto g.T.PartialEq.eq a b) all ∙ c.loop-y.invariant)
