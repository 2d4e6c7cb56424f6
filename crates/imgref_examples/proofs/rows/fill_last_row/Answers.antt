-- The cells that `cover_last` leaves show the patch of the last row.
use Rattle.imgref_examples.proofs.LastRow.{image_shows}
use Rattle.imgref_examples.proofs.rows.fill_last_row.Goals as goal

pub returns : goal.returns
returns g c =
    let shown = image_shows g.C.AsSlice.cells g.C.AsMutSlice.with_cells g.met.C.AsMutSlice.others_stay c.args.image.now c.cover_last.new.image c.args.value c.cover_last.ensures c.width-width.ensures.holds_width c.requires.fits in
    record { grid = shown.0; outside = shown.1; container = shown.2 }
