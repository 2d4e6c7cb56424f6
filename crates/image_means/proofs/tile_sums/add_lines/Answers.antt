-- One line more.
use Rattle.std.proofs.Common.{◌≡◌, ℕ, ◌+◌, ◌-◌, ◌*◌, ◌<◌, length, sym, ap, ap₂, ◌∙◌, arith}
use Rattle.std.proofs.lemmas.Grind.{common_steps}
use Rattle.image_means.specs.Means.{number_in}
use Rattle.image_means.proofs.Rounding.{sum_next}
use Rattle.image_means.proofs.SumsOfTiles.{part_number}
use Rattle.image_means.proofs.tile_sums.add_lines.Goals as goal

pub add_line-requires-clause-room : goal.add_line-requires-clause-room
add_line-requires-clause-room g c = grind (arith, common_steps)

pub loop-line-preserved : goal.loop-line-preserved
loop-line-preserved g c =
    let a = c.args in
    let so = c.loop-line.invariant in
    let line = c.loop-line.line in
    let added = c.add_line.ensures in
    let from : ℕ = a.lines.first.start + line * a.lines.stride in
    let many : ℕ = from + length c.loop-line.sums - from in
    record {
      as_many = added.as_many ∙ so.as_many;
      sums = record {
        each = λ k below.
            let old : k < length c.loop-line.sums = omega (arith, below, added.as_many) in
            added.each k old
            ∙ ap₂ (λ m n. m + n) (so.sums.each k old)
            (part_number g.T.Sample.number a.cells.now from many k (omega (arith, old)) ∙ ap (number_in g.T.Sample.number a.cells.now) (let e : from + k ≡ a.lines.first.start + k + line * a.lines.stride = omega arith in e))
            ∙ sym (sum_next line (λ j. number_in g.T.Sample.number a.cells.now (a.lines.first.start + k + j * a.lines.stride)));
        within = λ k below.
            let old : k < length c.loop-line.sums = omega (arith, below, added.as_many) in
            omega (arith, added.within k old, so.sums.within k old);
      };
    }
