-- One cell more: of the first pixel of a tile, or of another.
use Rattle.std.proofs.Common.{◌≡◌, ℕ, ◌+◌, ◌-◌, ◌*◌, ◌%◌, ◌<◌, ◌≤◌, ◌^◌, min, inl, inr, List, refl, ap, sym, ◌∙◌, arith}
use Rattle.std.proofs.lemmas.Nat.{mul-le}
use Rattle.std.proofs.lemmas.Grind.{common_steps}
use Rattle.image_means.specs.Means.{sample_cells, sample_number, sample_start, cell_number, row_mean, row_cell}
use Rattle.image_means.proofs.MeanTiles.{PutUpto, next_put, later_stays, cell_put, mean_begun, tile_whole}
use Rattle.image_means.proofs.Samples.{whole_tile, same_start, cell_within}
use Rattle.image_means.proofs.means.put_row_cells.Goals.{then-x-corner, else-x-corner, then-begins_sample, else-begins_sample}
use Rattle.image_means.proofs.means.put_row_cells.Goals as goal

pub mean_at-mean-requires-clause-some : goal.mean_at-mean-requires-clause-some
mean_at-mean-requires-clause-some g c =
    let a = c.args in
    let room : 1 ≤ a.tile.width * a.tile.size = omega (arith, mul-le 1 1 a.tile.width a.tile.size (omega (arith, c.requires.tiled.wide)) (omega (arith, c.requires.tiled.samples.some))) in
    omega (arith, c.min-len.ensures, c.saturating_mul-across.ensures, room, c.loop-x-test.true)

pub mean_at-mean-requires-clause-whole : goal.mean_at-mean-requires-clause-whole
mean_at-mean-requires-clause-whole g c =
    let a = c.args in
    let x = c.loop-x.x in
    let len : c.min-len.result ≡ min (a.tile.width * a.tile.size) (a.lines.first.len - x) = omega (arith, c.min-len.ensures, c.saturating_mul-across.ensures, c.requires.lines.narrow) in
    let begins : x % sample_cells a.bytes ≡ 0 = c.begins_sample.ensures.begins c.if-begins_sample.true in
    ap (λ n. n % sample_cells a.bytes) len ∙ whole_tile a.bytes a.tile.width a.tile.size a.lines.first.len x c.requires.tiled.samples.whole c.requires.tiled.whole begins

pub sample-requires : goal.sample-requires
sample-requires g c =
    let bytes = c.args.bytes in
    let greatest = g.T.Sample.greatest in
    let within : c.if-begins_sample.mean ≤ sample_number bytes greatest greatest =
    elim c.if-begins_sample.branch [
      | then-begins_sample w ↦ rw w.mean-is w.mean_at-mean.ensures.within
      | else-begins_sample w ↦ rw w.mean-is c.loop-x.invariant.within
    ] in
    rw c.number_at.ensures (cell_within bytes greatest c.loop-x.x c.if-begins_sample.mean c.requires.tiled.samples.kind within)

-- this cell lies in the tile that begins at the corner; where it is a sample's second cell, the corner stays
record Here {T : Type 0} (what : ℕ → T) (size tile start : ℕ) (old now : List T) (cells before corner x : ℕ) : Type 0 where
  put : PutUpto what size tile start old now corner x
  within : x < corner + tile * size
  stays : 0 < x % cells → corner ≡ before

pub loop-x-preserved : goal.loop-x-preserved
loop-x-preserved g c =
    let a = c.args in
    let l = c.loop-x in
    let bytes = a.bytes in
    let number = g.T.Sample.number in
    let sample = g.T.Sample.sample in
    let size = a.tile.size in
    let wide = a.tile.width in
    let old = a.cells.now in
    let x = l.x in
    let now = l.cells in
    let put = l.invariant.put in
    let what = row_cell bytes number sample size wide a.lines.count a.lines.stride a.lines.first.start a.lines.first.len old in
    let means = row_mean bytes number size wide a.lines.count a.lines.stride a.lines.first.start a.lines.first.len old in
    let some = c.requires.tiled.samples.some in
    let many = c.requires.tiled.wide in
    let tile = c.saturating_mul-across.ensures in
    let corner = c.corner_of-corner.result in
    let narrow : x < 2 ^ 32 = omega (arith, c.loop-x-test.true, c.requires.lines.narrow) in
    let room : size ≤ wide * size = omega (arith, mul-le 1 size wide size (omega (arith, many)) (omega arith)) in
    let here : Here what size wide a.lines.first.start old now (sample_cells bytes) l.corner corner x =
    elim c.corner_of-corner.ensures [
      | inl is ↦
          let ends : x ≡ l.corner + wide * size = omega (arith, is.0, tile, narrow) in
          let whole : x % sample_cells bytes ≡ 0 = tile_whole what size wide a.lines.first.start some many old now l.corner x put bytes c.requires.tiled.samples.whole ends in
          rw is.1 (record {
            put = next_put what size wide a.lines.first.start some many old now l.corner x put ends;
            within = omega (arith, room, some);
            stays = λ rest. absurd (omega (arith, rest, whole));
          })
      | inr is ↦ rw is.1 (record { put = put; within = omega (arith, is.0, tile, narrow, put.reached.within); stays = λ rest. refl })
    ] in
    elim c.if-x-corner.branch [
      | then-x-corner w ↦
          let first : x < corner + size = omega (arith, w.if-x-corner.true, here.put.reached.from) in
          let mean : (w.if-begins_sample.mean ≡ means (sample_start bytes x)) × (w.if-begins_sample.mean ≤ sample_number bytes g.T.Sample.greatest g.T.Sample.greatest) =
          elim w.if-begins_sample.branch [
            | then-begins_sample v ↦
                let len : v.min-len.result ≡ min (wide * size) (a.lines.first.len - x) = omega (arith, v.min-len.ensures, tile, c.requires.lines.narrow) in
                let begins : x % sample_cells bytes ≡ 0 = w.begins_sample.ensures.begins v.if-begins_sample.true in
                rw v.mean-is (mean_begun what size wide a.lines.first.start some many old now corner x here.put bytes number a.lines.count a.lines.stride a.lines.first.len v.mean_at-mean.result v.min-len.result begins len v.mean_at-mean.ensures.value, v.mean_at-mean.ensures.within)
            | else-begins_sample v ↦
                let rest : 0 < x % sample_cells bytes = w.begins_sample.ensures.within v.if-begins_sample.false in
                rw v.mean-is (l.invariant.mean rest (omega (arith, first, here.stays rest)), l.invariant.within)
          ] in
          let is : w.sample.result ≡ what x = w.sample.ensures ∙ ap sample (w.number_at.ensures ∙ ap (cell_number bytes x) mean.0) in
          rw (w.cells-is, w.mean-is) (record {
            put = cell_put what size wide a.lines.first.start some many old now corner x here.put w.sample.result first room (omega (arith, c.requires.lines.inside, c.loop-x-test.true, put.as_many)) is;
            mean = λ rest upto. mean.0 ∙ ap means (sym (same_start bytes x rest));
            within = mean.1;
          })
      | else-x-corner w ↦
          let after : corner + size ≤ x = omega (arith, w.if-x-corner.false, here.put.reached.from) in
          rw (w.cells-is, w.mean-is) (record {
            put = later_stays what size wide a.lines.first.start some many old now corner x here.put after here.within;
            mean = λ rest upto. absurd (omega (arith, upto, after));
            within = l.invariant.within;
          })
    ]

pub returns : goal.returns
returns g c = grind (arith, common_steps)
