use mathlib.Core.Path.{ap₂}
use Rattle.image_pixels.specs.Marks.{pick, marks}
use Rattle.image_pixels.specs.Pixels.{refs_left}
use Rattle.image_pixels.proofs.pixels.PixelsRefIter.find_row.Goals as goal

pub returns-then-self-eq0-2-clause-none : goal.returns-then-self-eq0-2-clause-none
unfolding refs_left
returns-then-self-eq0-2-clause-none g c =
    let s = c.args.self.now in
    λ _. ap₂ (λ n m. pick (marks n m s.width s.pad) s.cells.cells) c.if-self-eq0.true c.if-self-eq0-2.true
