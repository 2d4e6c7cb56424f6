use Rattle.std.proofs.Common.{◌+◌, ◌-◌, ◌*◌, ◌≤◌, length, sym, ap, ◌∙◌, arith}
use Rattle.image_pixels.specs.Marks.{pick, marks}
use Rattle.image_pixels.specs.Pixels.{refs_left}
use Rattle.image_pixels.proofs.Marks.{pick_entered}
use Rattle.image_pixels.proofs.pixels.PixelsRefIter.enter_row.Goals as goal

pub returns-clause-stays : goal.returns-clause-stays
unfolding refs_left
returns-clause-stays g c =
    let s = c.args.self.now in
    let reaches : s.rows_left * (s.pad + s.width) ≤ length s.cells.cells = omega (arith, s.reaches, c.requires.row_ended) in
    ap (λ xs. pick (marks s.width (s.rows_left - 1) s.width s.pad) xs) c.take.ensures.rest
    ∙ pick_entered s.rows_left s.width s.pad s.cells.cells c.requires.some reaches
    ∙ ap (λ n. pick (marks n s.rows_left s.width s.pad) s.cells.cells) (sym c.requires.row_ended)
