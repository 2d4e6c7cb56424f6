use Rattle.std.proofs.Common.{◌+◌, ◌*◌, ◌≤◌, length, subst, sym, ap, ◌∙◌}
use Rattle.image_shape.specs.Shape.{shaped}
use Rattle.image_pixels.specs.Marks.{pick, marks}
use Rattle.image_pixels.specs.Pixels.{refs_left}
use Rattle.image_pixels.proofs.Layouts.{start_reaches, start_pixels}
use Rattle.image_pixels.proofs.Runs.{refs_run}
use Rattle.image_pixels.proofs.pixels.PixelsRefIter.new.Goals as goal

pub from_counts-requires-clause-reaches : goal.from_counts-requires-clause-reaches
from_counts-requires-clause-reaches g c =
    let n = c.of_shape in
    subst (λ xs. n.result.remaining + n.result.rows_left * (n.result.pad + n.result.width) ≤ length xs) (sym c.new.ensures)
    (start_reaches (shaped c.args.cells.now c.args.shape) n.result.remaining n.result.rows_left n.result.width n.result.pad n.ensures.holds_width n.ensures.remaining n.ensures.rows_left n.ensures.width n.ensures.pad c.requires.fits)

pub returns : goal.returns
returns g c =
    let n = c.of_shape in
    let all = start_pixels (shaped c.args.cells.now c.args.shape) n.result.remaining n.result.rows_left n.result.width n.result.pad n.ensures.holds_width n.ensures.remaining n.ensures.rows_left n.ensures.width n.ensures.pad
    (refs_left c.from_counts.result) c.requires.fits n.ensures.width_bound n.ensures.height_bound (c.from_counts.ensures.pixels ∙ ap (pick (marks n.result.remaining n.result.rows_left n.result.width n.result.pad)) c.new.ensures) in
    record { whole = all; runs = refs_run }
