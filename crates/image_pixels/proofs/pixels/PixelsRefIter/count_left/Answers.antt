use Rattle.std.proofs.Common.{sym, ◌∙◌}
use Rattle.image_pixels.specs.Pixels.{refs_left}
use Rattle.image_pixels.proofs.Marks.{length-pixels}
use Rattle.image_pixels.proofs.pixels.PixelsRefIter.count_left.Goals as goal

pub returns : goal.returns
unfolding refs_left
returns g c = let s = c.args.self.now in c.pixels_left.ensures ∙ sym (length-pixels s.remaining s.rows_left s.width s.pad s.cells.cells s.reaches)
