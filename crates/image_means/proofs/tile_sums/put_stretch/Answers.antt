-- The sums begin with nothing, and tell the means.
use Rattle.std.proofs.Common.{◌≡◌, ℕ, List, length, subst, ap, ◌∙◌}
use Rattle.std.proofs.lemmas.List.{length-replicate}
use Rattle.image_means.specs.LineSums.{sums_cell}
use Rattle.image_means.specs.Means.{row_cell, PutsCells}
use Rattle.image_shape.specs.declared.samples.SampleBytes.TheVariants.{One}
use Rattle.image_means.proofs.SumsOfTiles.{puts_same, sums_are}
use Rattle.image_means.proofs.tile_sums.put_stretch.Goals as goal

pub returns-clause-put : goal.returns-clause-put
returns-clause-put g c =
    let a = c.args in
    let number = g.T.Sample.number in
    let tally = g.C.Tally.tally in
    let sample = g.T.Sample.sample in
    let sums : List g.row.C.Denot = c.add_lines.new.sums in
    let width : ℕ = a.lines.first.len in
    let old = a.cells.now in
    let new = c.put_tiles.new.cells in
    let long : length sums ≡ width = c.add_lines.ensures.as_many ∙ ap length c.fill_cells.ensures ∙ length-replicate (length a.sums.now) _ ∙ c.requires.sums in
    let put : PutsCells (sums_cell tally sample a.tile.size a.tile.width a.lines.count sums) a.tile.size a.tile.width a.lines.first.start width old new =
    subst (λ n. PutsCells (sums_cell tally sample a.tile.size a.tile.width a.lines.count sums) a.tile.size a.tile.width a.lines.first.start n old new) long
    c.put_tiles.ensures in
    puts_same (sums_cell tally sample a.tile.size a.tile.width a.lines.count sums) (row_cell One number sample a.tile.size a.tile.width a.lines.count a.lines.stride a.lines.first.start width old) a.tile.size a.tile.width a.lines.first.start width old new
    (sums_are number tally sample g.T.Sample.greatest a.tile.size a.tile.width a.lines.count a.lines.stride a.lines.first.start width c.requires.lines.some old sums c.add_lines.ensures.sums long) put
