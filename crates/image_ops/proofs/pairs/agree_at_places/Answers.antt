-- The pairs of each row are the pixels of its places.
use Rattle.std.proofs.Common.{◌<◌, arith}
use Rattle.image_model.proofs.Rows.{row_count-le, row_count-wide}
use Rattle.image_shape.specs.Shape.{shaped}
use Rattle.image_ops.proofs.Elements.{row_element, place_from_pair, one_row_more}
use Rattle.image_ops.proofs.pairs.agree_at_places.Goals as goal

pub agree-requires-clause-callable : goal.agree-requires-clause-callable
agree-requires-clause-callable g c = λ x p q below first second.
    let k = shaped c.args.first.now c.args.first_shape in
    let l = shaped c.args.second.now c.args.second_shape in
    let y = c.loop-y.y in
    let column : x < k.width = omega (arith, below, c.row.ensures.len) in
    let column' : x < l.width = omega (arith, column, c.width.ensures.value, c.width-2.ensures.value) in
    let line : y < k.height = omega (arith, c.row_count-y-end.ensures.value, row_count-le k.width k.height) in
    c.requires.callable x y p q column line (row_element k x y c.row.result.now p.now column c.row.ensures.value first) (row_element l x y c.row-in-loop-y.result.now q.now column' c.row-in-loop-y.ensures.value second)

pub returns-then-not-agree : goal.returns-then-not-agree
returns-then-not-agree g c = λ _.
    let k = shaped c.args.first.now c.args.first_shape in
    let l = shaped c.args.second.now c.args.second_shape in
    let y = c.loop-y.y in
    let pair = c.if-not-agree.ensures in
    let column : pair.0 < k.width = omega (arith, pair.1.0, c.row.ensures.len) in
    let column' : pair.0 < l.width = omega (arith, column, c.width.ensures.value, c.width-2.ensures.value) in
    let line : y < k.height = omega (arith, c.row_count-y-end.ensures.value, row_count-le k.width k.height) in
    record {
      x = pair.0;
      y = y;
      column = column;
      line = line;
      rows_above = c.loop-y.invariant;
      left_of_it = λ u before. place_from_pair _ k l u y _ _ _ (omega arith) (omega arith) c.row.ensures.value c.row-in-loop-y.ensures.value (pair.1.1.0 u before);
      differs = place_from_pair _ k l pair.0 y _ _ _ column column' c.row.ensures.value c.row-in-loop-y.ensures.value pair.1.1.1;
    }

pub loop-y-preserved : goal.loop-y-preserved
loop-y-preserved g c =
    let k = shaped c.args.first.now c.args.first_shape in
    let l = shaped c.args.second.now c.args.second_shape in
    let y = c.loop-y.y in
    one_row_more _ k.width y c.loop-y.invariant (λ x column.
    let column' : x < l.width = omega (arith, column, c.width.ensures.value, c.width-2.ensures.value) in
    place_from_pair _ k l x y _ _ _ column column' c.row.ensures.value c.row-in-loop-y.ensures.value (c.if-not-agree.ensures x (omega (arith, column, c.row.ensures.len))))

pub returns : goal.returns
returns g c = (
  (omega (arith, c.width.ensures.value, c.width-2.ensures.value), omega (arith, c.height.ensures.value, c.height-else-width.ensures.value)),
  λ x y column line. c.loop-y.invariant x y column (omega (arith, line, c.row_count-y-end.ensures.value, row_count-wide c.args.first_shape.width c.args.first_shape.height (omega (arith, column)))),
)
