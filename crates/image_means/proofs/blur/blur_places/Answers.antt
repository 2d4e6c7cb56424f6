-- The samples at the places of one group more are means.
use Rattle.std.proofs.Common.{◌≡◌, ◌<◌, ◌≤◌, ◌+◌, ◌-◌, ◌*◌, ◌/◌, length, Some, subst, ◌∙◌, arith, inl, inr}
use Rattle.std.proofs.Math.Nat.{add-mul, mul-le-mul_right}
use Rattle.std.proofs.lemmas.Bool.{cases_lt}
use Rattle.std.specs.List.{slice_get}
use Rattle.std.proofs.lemmas.Grind.{common_steps}
use Rattle.image_means.specs.Blur.{sums_mean}
use Rattle.image_means.specs.Means.{sample_cells, cell_number}
use Rattle.image_means.proofs.BoxSums.{pixel_of}
use Rattle.image_means.proofs.blur.blur_places.Goals as goal

pub loop-group-preserved : goal.loop-group-preserved
loop-group-preserved g c =
    let a = c.args in
    let so = c.loop-group.invariant in
    let group = c.loop-group.group in
    let at = group * g.row.N in
    let placed = c.blur_place.ensures.means in
    let within : (group + 1) * g.row.N ≤ a.blur.per = omega (arith, mul-le-mul_right g.row.N (let e : group + 1 ≤ a.blur.per / g.row.N = omega (arith, c.loop-group-test.true, c.loop-group.auto.group-end) in e), c.requires.whole) in
    record {
      many = placed.as_many ∙ so.many;
      means = λ q b n upto there inner.
          elim (cases_lt b at) [
            | inl earlier ↦ placed.others q b n (omega (arith, upto, within)) there inner (λ low _. absurd (omega (arith, low, earlier))) ∙ so.means q b n earlier there inner
            | inr later ↦
                let same : at + (b - at) ≡ b = omega (arith, later) in
                let inside : b - at < g.row.N = omega (arith, upto, add-mul group 1 g.row.N, later) in
                subst (λ m. slice_get c.blur_place.new.row ((q * a.blur.per + m) * sample_cells a.blur.bytes + n) ≡ Some (cell_number a.blur.bytes n (sums_mean a.sums.now a.blur.per a.blur.across a.lines q m))) same (placed.each q (b - at) n (omega arith) (pixel_of (length a.sums.now) a.blur.per q b c.requires.sums.whole there) inside inner)
          ];
    }

pub returns : goal.returns
returns g c = grind (arith, common_steps)
