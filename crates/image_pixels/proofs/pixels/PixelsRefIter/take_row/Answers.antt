use Rattle.std.proofs.Common.{◌∙◌, sym, arith}
use Rattle.image_pixels.proofs.pixels.PixelsRefIter.take_row.Goals as goal

pub returns-then-not-find_row : goal.returns-then-not-find_row
returns-then-not-find_row g c =
    let none = c.find_row.ensures.none c.if-not-find_row.true in
    (none, c.find_row.ensures.stays ∙ none)

pub returns : goal.returns
returns g c = (sym c.find_row.ensures.stays ∙ c.take.ensures.taken, omega (arith, c.take.ensures.count, c.find_row.ensures.some c.if-not-find_row.false))
