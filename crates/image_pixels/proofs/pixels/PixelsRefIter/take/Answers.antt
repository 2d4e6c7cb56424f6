use Rattle.std.proofs.Common.{◌-◌, ◌++◌, sym, ◌∙◌, ap₂}
use Rattle.image_pixels.specs.Marks.{pick, marks}
use Rattle.image_pixels.specs.Pixels.{refs_left}
use Rattle.image_pixels.proofs.Marks.{pick_taken}
use Rattle.image_pixels.proofs.pixels.PixelsRefIter.take.Goals as goal

pub returns-clause-taken : goal.returns-clause-taken
unfolding refs_left
returns-clause-taken g c =
    let s = c.args.self.now in
    let k = c.args.count in
    pick_taken k s.remaining s.rows_left s.width s.pad s.cells.cells c.requires
    ∙ ap₂ (λ xs ys. xs ++ pick (marks (s.remaining - k) s.rows_left s.width s.pad) ys) (sym c.take.ensures.taken) (sym c.take.ensures.rest)
