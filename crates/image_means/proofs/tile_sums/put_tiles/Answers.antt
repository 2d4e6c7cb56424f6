-- One tile more, and the one that the row's end cuts.
use Rattle.std.proofs.Common.{◌≡◌, ◌<◌, ℕ, ◌+◌, ◌-◌, ◌*◌, min, List, length, length-take, length-drop, take, drop, subst, arith}
use Rattle.std.proofs.lemmas.Nat.{mul-le}
use Rattle.std.proofs.lemmas.Grind.{common_steps}
use Rattle.image_means.specs.LineSums.{sums_cell}
use Rattle.image_means.specs.Means.{PutsCells}
use Rattle.image_means.proofs.SumsOfTiles.{all_before, put_next, part_cell, part_within}
use Rattle.image_means.proofs.tile_sums.put_tiles.Goals as goal

pub loop-at-preserved : goal.loop-at-preserved
loop-at-preserved g c =
    let a = c.args in
    let r = c.requires in
    let sums : List g.row.C.Denot = a.sums.now in
    let at : ℕ = c.loop-at.at in
    let n : ℕ = a.tile.width * a.tile.size in
    let now = c.loop-at.cells in
    let new = c.put_tile.new.cells in
    let cell : List g.row.C.Denot → ℕ → g.row.T.Denot = sums_cell g.C.Tally.tally g.T.Sample.sample a.tile.size a.tile.width a.lines.count in
    let cut : n ≡ min n (length sums - at) = omega (arith, c.loop-at-test.true) in
    let more : at < length sums = omega (arith, c.loop-at-test.true, mul-le 1 a.tile.size a.tile.width a.tile.size r.lines.wide (omega arith), r.lines.some) in
    let long : length (take n (drop at sums)) ≡ n = omega (arith, cut, length-take n (drop at sums), length-drop at sums) in
    let put : PutsCells (cell (take n (drop at sums))) a.tile.size a.tile.width (a.lines.first.start + at) n now new =
    subst (λ k. PutsCells (cell (take n (drop at sums))) a.tile.size a.tile.width (a.lines.first.start + at) k now new) long
    (subst (λ k. PutsCells (cell (take k (drop at sums))) a.tile.size a.tile.width (a.lines.first.start + at) (length (take k (drop at sums))) now new) (let e : at + n - at ≡ n = omega arith in e) c.put_tile.ensures) in
    put_next (cell sums) a.tile.size a.tile.width a.lines.first.start (length sums) r.lines.some r.lines.wide a.cells.now now at c.loop-at.invariant (cell (take n (drop at sums))) 1 n n new more (omega arith) cut put
    (λ u below own. part_cell g.C.Tally.tally g.T.Sample.sample a.tile.size a.tile.width a.lines.count r.lines.some r.lines.wide sums at n cut u below own)

pub returns-then-at-sums : goal.returns-then-at-sums
returns-then-at-sums g c =
    let a = c.args in
    let r = c.requires in
    let sums : List g.row.C.Denot = a.sums.now in
    let at : ℕ = c.loop-at.at in
    let across : ℕ = a.tile.width * a.tile.size in
    let n : ℕ = length sums - at in
    let now = c.loop-at.cells in
    let new = c.put_cut_tile.new.cells in
    let cell : List g.row.C.Denot → ℕ → g.row.T.Denot = sums_cell g.C.Tally.tally g.T.Sample.sample a.tile.size a.tile.width a.lines.count in
    let cut : n ≡ min across (length sums - at) = omega (arith, c.loop-at-test.false) in
    let long : length (take n (drop at sums)) ≡ n = omega (arith, length-take n (drop at sums), length-drop at sums) in
    let put : PutsCells (cell (take n (drop at sums))) a.tile.size a.tile.width (a.lines.first.start + at) n now new =
    subst (λ k. PutsCells (cell (take n (drop at sums))) a.tile.size a.tile.width (a.lines.first.start + at) k now new) long c.put_cut_tile.ensures in
    let all = put_next (cell sums) a.tile.size a.tile.width a.lines.first.start (length sums) r.lines.some r.lines.wide a.cells.now now at c.loop-at.invariant (cell (take n (drop at sums))) 1 across n new c.if-at-sums.true (omega arith) cut put
    (λ u below own. part_cell g.C.Tally.tally g.T.Sample.sample a.tile.size a.tile.width a.lines.count r.lines.some r.lines.wide sums at n cut u below own) in
    all_before (cell sums) a.tile.size a.tile.width a.lines.first.start (length sums) r.lines.some r.lines.wide a.cells.now new (at + n) all (omega arith)

pub returns-else-at-sums : goal.returns-else-at-sums
returns-else-at-sums g c = grind (arith, common_steps)

-- the sums of a tile, and of one that the row's end cuts
pub put_tile-requires-clause-sums : goal.put_tile-requires-clause-sums
put_tile-requires-clause-sums g c =
    let a = c.args in
    let r = c.requires in
    let at : ℕ = c.loop-at.at in
    let n : ℕ = at + a.tile.width * a.tile.size - at in
    record {
      some = r.lines.some;
      wide = r.lines.wide;
      short = omega (arith, length-take n (drop at a.sums.now), r.lines.narrow);
      within = part_within g.C.Tally.tally a.sums.now at n (a.lines.count * g.T.Sample.greatest) (omega (arith, c.loop-at-test.true)) r.within;
      any = r.lines.inside.some;
      few = r.lines.few;
    }

pub put_cut_tile-requires-clause-sums : goal.put_cut_tile-requires-clause-sums
put_cut_tile-requires-clause-sums g c =
    let a = c.args in
    let r = c.requires in
    let at : ℕ = c.loop-at.at in
    let n : ℕ = length a.sums.now - at in
    record {
      some = r.lines.some;
      wide = r.lines.wide;
      short = omega (arith, length-take n (drop at a.sums.now), c.loop-at-test.false, r.lines.narrow);
      within = part_within g.C.Tally.tally a.sums.now at n (a.lines.count * g.T.Sample.greatest) (omega (arith, c.if-at-sums.true)) r.within;
      any = r.lines.inside.some;
      few = r.lines.few;
    }
