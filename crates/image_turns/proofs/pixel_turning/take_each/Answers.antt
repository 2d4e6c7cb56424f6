-- One pixel more, with the cells after it or without.
use Rattle.std.proofs.Common.{◌≡◌, ℕ, suc, ◌+◌, ◌-◌, ◌*◌, ◌<◌, ◌≤◌, length, drop, sym, ap, ◌∙◌, subst, arith, length-take, length-drop}
use Rattle.std.specs.List.{slice_get}
use Rattle.std.proofs.Math.Nat.{suc-mul}
use Rattle.std.proofs.lemmas.Nat.{mul-le}
use Rattle.std.proofs.lemmas.Grind.{common_steps}
use Rattle.image_model.proofs.Cells.{slice_get-take, slice_get-drop}
use Rattle.image_turns.specs.Oriented.{source_cell}
use Rattle.image_writes.proofs.Gathering.{GatheredTo, written}
use Rattle.image_turns.proofs.Oriented.{cell_of_pixel, one_pixel_more}
use Rattle.image_turns.proofs.pixel_turning.take_each.Goals as goal

-- the pixel after this one ends within so many
next_within : (x count size : ℕ) → x + 1 < count → x * size + 2 * size ≤ count * size
next_within x count size below = omega (arith, mul-le (suc (suc x)) size count size (omega (arith, below)) (omega arith), suc-mul (suc x) size, suc-mul x size)

this_within : (x count size : ℕ) → x < count → x * size + size ≤ count * size
this_within x count size below = omega (arith, mul-le (suc x) size count size (omega (arith, below)) (omega arith), suc-mul x size)

pub slice_bounds-write_part-end : goal.slice_bounds-write_part-end
slice_bounds-write_part-end g c =
    omega (arith, next_within c.loop-k.k c.args.part.count g.row.N (omega (arith, c.loop-k-test.true, c.followed_count-followed.ensures.few)), c.requires.narrow, c.requires.part.many, c.loop-k.invariant.as_many)

pub slice_bounds-read_part-end : goal.slice_bounds-read_part-end
slice_bounds-read_part-end g c =
    omega (arith, c.source_start-start.ensures.next_inside (c.followed_count-followed.ensures.followed c.loop-k.k c.loop-k-test.true), c.requires.narrow)

pub loop-k-preserved : goal.loop-k-preserved
loop-k-preserved g c =
    let a = c.args in
    let o = a.origin in
    let size : ℕ = g.row.N in
    let many : ℕ = g.row.W in
    let k = c.loop-k.k in
    let now = c.loop-k.cells in
    let from = source_cell o.orientation size o.shape.stride o.columns o.shape.height a.part.left a.part.y in
    let start = c.source_start-start.result in
    let block = c.write_part.new.cells in
    let inside : k * size + many ≤ length a.cells.now =
    omega (arith, c.requires.part.many, c.requires.narrow, next_within k a.part.count size (omega (arith, c.loop-k-test.true, c.followed_count-followed.ensures.few))) in
    let long : length block ≡ many = omega (arith, ap length c.write_part.ensures, ap length c.read_part-pixels.ensures, length-take (k * size + many - k * size) (drop (k * size) now), length-drop (k * size) now, inside, c.loop-k.invariant.as_many) in
    subst (λ cells. GatheredTo from a.source.now a.cells.now cells ((k + 1) * size)) (sym (written now block (k * size) (k * size + many - k * size) many (omega arith)))
    (one_pixel_more size many from a.source.now a.cells.now now k start block c.loop-k.invariant long c.requires.wide inside
    (λ j here.
    ap (λ xs. slice_get xs j) (c.write_part.ensures ∙ c.read_part-pixels.ensures) ∙ slice_get-take (start + many - start) (drop start a.source.now) j (omega (arith, here, c.requires.wide)) ∙ slice_get-drop start a.source.now j)
    (λ j here. cell_of_pixel o.orientation size o.shape.stride o.columns o.shape.height a.part.left a.part.y k j here ∙ ap (λ n. n + j) (sym c.source_start-start.ensures.value)))

pub loop-x-preserved : goal.loop-x-preserved
loop-x-preserved g c =
    let a = c.args in
    let o = a.origin in
    let size : ℕ = g.row.N in
    let x = c.loop-x.x in
    let now = c.loop-x.cells in
    let from = source_cell o.orientation size o.shape.stride o.columns o.shape.height a.part.left a.part.y in
    let start = c.source_start-from.result in
    let block = c.write_part-in-loop-x.new.cells in
    let inside : x * size + size ≤ length a.cells.now = omega (arith, c.requires.part.many, this_within x a.part.count size (omega (arith, c.loop-x-test.true))) in
    let long : length block ≡ size = omega (arith, ap length c.write_part-in-loop-x.ensures, ap length c.read_part-pixel.ensures, length-take (x * size + size - x * size) (drop (x * size) now), length-drop (x * size) now, inside, c.loop-x.invariant.as_many) in
    subst (λ cells. GatheredTo from a.source.now a.cells.now cells ((x + 1) * size)) (sym (written now block (x * size) (x * size + size - x * size) size (omega arith)))
    (one_pixel_more size size from a.source.now a.cells.now now x start block c.loop-x.invariant long (omega arith) inside
    (λ j here.
    ap (λ xs. slice_get xs j) (c.write_part-in-loop-x.ensures ∙ c.read_part-pixel.ensures) ∙ slice_get-take (start + size - start) (drop start a.source.now) j (omega (arith, here)) ∙ slice_get-drop start a.source.now j)
    (λ j here. cell_of_pixel o.orientation size o.shape.stride o.columns o.shape.height a.part.left a.part.y x j here ∙ ap (λ n. n + j) (sym c.source_start-from.ensures.value)))

pub write_part-requires : goal.write_part-requires
write_part-requires g c = grind (arith, common_steps)

pub read_part-pixels-requires : goal.read_part-pixels-requires
read_part-pixels-requires g c = grind (arith, common_steps)

pub write_part-requires-in-loop-x : goal.write_part-requires-in-loop-x
write_part-requires-in-loop-x g c = grind (arith, common_steps)

pub read_part-pixel-requires : goal.read_part-pixel-requires
read_part-pixel-requires g c = grind (arith, common_steps)

pub overflow_mul-x : goal.overflow_mul-x
overflow_mul-x g c = grind (arith, common_steps)

pub overflow_mul-k : goal.overflow_mul-k
overflow_mul-k g c = grind (arith, common_steps)

pub offset_bounds-cells-k : goal.offset_bounds-cells-k
offset_bounds-cells-k g c = grind (arith, common_steps)

pub overflow_mul-k-in-loop-k : goal.overflow_mul-k-in-loop-k
overflow_mul-k-in-loop-k g c = grind (arith, common_steps)

pub overflow_mul-x-in-loop-x : goal.overflow_mul-x-in-loop-x
overflow_mul-x-in-loop-x g c = grind (arith, common_steps)

pub returns-clause-taken : goal.returns-clause-taken
returns-clause-taken g c = grind (arith, common_steps)

pub offset_bounds-cells-x : goal.offset_bounds-cells-x
offset_bounds-cells-x g c = grind (arith, common_steps)

pub overflow_add-part : goal.overflow_add-part
overflow_add-part g c = grind (arith, common_steps)

pub loop-x-init : goal.loop-x-init
loop-x-init g c = grind (arith, common_steps)

pub overflow_add-k : goal.overflow_add-k
overflow_add-k g c =
    omega (arith, next_within c.loop-k.k c.args.part.count g.row.N (omega (arith, c.loop-k-test.true, c.followed_count-followed.ensures.few)), c.requires.narrow, c.requires.part.many)

pub overflow_add-x : goal.overflow_add-x
overflow_add-x g c =
    omega (arith, this_within c.loop-x.x c.args.part.count g.row.N c.loop-x-test.true, c.requires.part.many)

pub slice_bounds-write_part-end-in-loop-x : goal.slice_bounds-write_part-end-in-loop-x
slice_bounds-write_part-end-in-loop-x g c =
    omega (arith, this_within c.loop-x.x c.args.part.count g.row.N c.loop-x-test.true, c.requires.part.many, c.loop-x.invariant.as_many)
