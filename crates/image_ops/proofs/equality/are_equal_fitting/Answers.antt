-- What is compared as one row is compared.
use Rattle.std.proofs.Common.{◌≡◌, ◌∙◌, arith, rules}
use Rattle.image_ops.proofs.Touching.{same_result, same_sizes}
use Rattle.image_ops.proofs.equality.are_equal_fitting.Goals as goal

pub returns : goal.returns
returns g c =
    let s = c.args.first_shape in
    let t = c.args.second_shape in
    let wide : s.width ≡ t.width = omega (arith, c.if-width.false, c.width.ensures.value, c.width-2.ensures.value) in
    let high : s.height ≡ t.height = omega (arith, c.if-height.false, c.height.ensures.value, c.height-else-width.ensures.value) in
    let same = c.are_equal_by_width.ensures
    ∙ same_result s t _ _ wide high c.fewest_rows.ensures g.T.PartialEq.eq c.args.first.now c.args.second.now c.requires.first_fits c.requires.second_fits in
    search (rules, same)

pub are_equal_by_width-requires : goal.are_equal_by_width-requires
are_equal_by_width-requires g c =
    let a = c.args in
    record { sizes = same_sizes a.first_shape a.second_shape _ _ (omega (arith, c.if-width.false, c.width.ensures.value, c.width-2.ensures.value)) (omega (arith, c.if-height.false, c.height.ensures.value, c.height-else-width.ensures.value)) c.fewest_rows.ensures _ _ c.requires.first_fits c.requires.second_fits }
