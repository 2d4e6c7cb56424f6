-- The old pixels don't matter.
use Rattle.imgref.proofs.Ignored.{places_alone}
use Rattle.imgref.proofs.img.Img.fill_places.Goals as goal

pub returns-clause-grid : goal.returns-clause-grid
returns-clause-grid g c = places_alone _ _ _ c.requires.fits c.map_places.ensures.grid
