use Rattle.texts.proofs.ShortPixels.{others_mask}
use Rattle.texts.proofs.pixels.others.Goals as goal

pub returns : goal.returns
returns g c = others_mask g.row.N c.args.lanes c.fits-lanes.0 c.requires
