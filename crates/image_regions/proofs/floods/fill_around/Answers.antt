-- The four places beside one are looked at.
use Rattle.std.proofs.Common.{◌/◌, ◌%◌, ◌<◌, ◌++◌, sym, subst, arith}
use Rattle.imgref.specs.Words.{Flooding, beside, shape_height, shape_width}
use Rattle.image_regions.specs.Pending.{cell_grid, to_look_at}
use Rattle.image_regions.proofs.Pending.{four_looked, row_within}
use Rattle.image_regions.proofs.floods.fill_around.Goals as goal

-- (a number in the room is that of a place)
pub returns-then-y-height-clause-goes_on : goal.returns-then-y-height-clause-goes_on
returns-then-y-height-clause-goes_on g c h left top seeded f =
    let s = c.args.fill.now in
    let row : c.args.number / shape_width s.shape < shape_height s.shape = row_within (shape_width s.shape) (shape_height s.shape) c.args.number c.requires.inside in
    absurd (omega (arith, c.if-y-height.true, subst (λ w. c.args.number / w < shape_height s.shape) (sym c.width-width.ensures.value) row))

pub returns-clause-goes_on : goal.returns-clause-goes_on
returns-clause-goes_on g c h left top seeded f =
    let a = c.args in
    let s = a.fill.now in
    let wide = c.width-width.result in
    four_looked (a.number % wide) (a.number / wide) c.saturating_sub.result c.saturating_sub-2.result (omega (arith, c.saturating_sub.ensures)) (omega (arith, c.saturating_sub-2.ensures))
    (Flooding h left top s.value (cell_grid s a.cells.now))
    (Flooding h left top s.value (cell_grid s c.fill_one-count.new.cells))
    (Flooding h left top s.value (cell_grid s c.fill_one-count-2.new.cells))
    (Flooding h left top s.value (cell_grid s c.fill_one-count-3.new.cells))
    (Flooding h left top s.value (cell_grid s c.fill_one.new.cells))
    (to_look_at s a.count a.room.now)
    (to_look_at s c.fill_one-count.result c.fill_one-count.new.room)
    (to_look_at s c.fill_one-count-2.result c.fill_one-count-2.new.room)
    (to_look_at s c.fill_one-count-3.result c.fill_one-count-3.new.room)
    (to_look_at s c.fill_one.result c.fill_one.new.room)
    (λ rest. c.fill_one-count.ensures.goes_on h left top rest seeded)
    (λ rest. c.fill_one-count-2.ensures.goes_on h left top rest seeded)
    (λ rest. c.fill_one-count-3.ensures.goes_on h left top rest seeded)
    (λ rest. c.fill_one.ensures.goes_on h left top rest seeded)
    (subst (λ k. Flooding h left top s.value (cell_grid s a.cells.now) (to_look_at s a.count a.room.now ++ beside (a.number % k) (a.number / k))) (sym c.width-width.ensures.value) f)
