-- One stretch more.
use Rattle.std.proofs.Common.{◌≡◌, ℕ, ◌+◌, ◌*◌, ◌/◌, ◌≤◌, List, length, take, drop, length-take, length-drop, length-append, arith}
use Rattle.std.proofs.lemmas.Nat.{div-add-mod'}
use Rattle.std.proofs.lemmas.Grind.{common_steps}
use Rattle.image_means.specs.Means.{row_cell}
use Rattle.image_shape.specs.declared.samples.SampleBytes.TheVariants.{One}
use Rattle.image_means.proofs.SumsOfTiles.{put_next, stretch_cell}
use Rattle.image_means.proofs.tile_sums.put_row.Goals as goal

pub loop-from-preserved : goal.loop-from-preserved
loop-from-preserved g c =
    let a = c.args in
    let r = c.requires in
    let so = c.loop-from.invariant in
    let from : ℕ = c.loop-from.from in
    let now = c.loop-from.cells in
    let sums : List g.row.C.Denot = c.loop-from.sums in
    let new = c.put_stretch.new.cells in
    let tile : ℕ = a.tile.width * a.tile.size in
    let most : ℕ = c.whole_tiles-most.result in
    let m : ℕ = most / tile in
    let step : most ≡ m * tile = omega (arith, c.whole_tiles-most.ensures.whole, div-add-mod' most tile) in
    let len : ℕ = c.min-len.result in
    let short : len ≤ 512 = omega (arith, c.min-len.ensures, c.whole_tiles-most.ensures.room) in
    let long : length (take len sums) ≡ len = omega (arith, short, so.room, r.sums, length-take len sums) in
    let cell : ℕ → ℕ → List g.row.T.Denot → ℕ → g.row.T.Denot = λ start width cells. row_cell One g.T.Sample.number g.T.Sample.sample a.tile.size a.tile.width a.lines.count a.lines.stride start width cells in
    record {
      room = omega (arith, length-append c.put_stretch.new.sums (drop len sums), c.put_stretch.ensures.as_many, long, length-drop len sums, short, so.room, r.sums);
      put = put_next (cell a.lines.first.start a.lines.first.len a.cells.now) a.tile.size a.tile.width a.lines.first.start a.lines.first.len r.lines.some r.lines.wide a.cells.now now from so.put (cell (a.lines.first.start + from) len now) m most len new c.loop-from-test.true step c.min-len.ensures c.put_stretch.ensures.put
          (λ u below own. stretch_cell g.T.Sample.number g.T.Sample.sample a.tile.size a.tile.width a.lines.count a.lines.stride a.lines.first.start a.lines.first.len r.lines.some r.lines.wide a.cells.now now from m most len so.put.others step c.min-len.ensures u below own);
    }

pub put_stretch-requires-clause-sums : goal.put_stretch-requires-clause-sums
put_stretch-requires-clause-sums g c = grind (arith, common_steps)

pub returns : goal.returns
returns g c = grind (arith, common_steps)
