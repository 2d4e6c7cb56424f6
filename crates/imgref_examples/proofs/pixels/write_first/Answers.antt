-- The cells that `cover_first` leaves show the first pixels written.
use Rattle.imgref_examples.proofs.FirstPixels.{image_shows}
use Rattle.imgref_examples.proofs.pixels.write_first.Goals as goal

pub returns : goal.returns
returns g c =
    let shown = image_shows g.C.AsSlice.cells g.C.AsMutSlice.with_cells g.met.C.AsMutSlice.others_stay c.args.image.now c.cover_first.new.image c.args.count c.args.value c.cover_first.ensures c.width-width.ensures.holds_width c.requires.fits in
    record { grid = shown.0; outside = shown.1; container = shown.2 }
