-- The old pixels don't matter.
use Rattle.std.proofs.Common.{arith}
use Rattle.std.proofs.lemmas.Grind.{common_steps}
use Rattle.imgref.proofs.Ignored.{other_alone}
use Rattle.imgref.proofs.img.Img.map_from.Goals as goal

pub returns-clause-grid : goal.returns-clause-grid
returns-clause-grid g c = other_alone _ _ _ _ c.requires.fits c.requires.source_fits c.requires.same_width c.requires.same_height c.zip_pixels.ensures.grid

pub returns-clause-outside : goal.returns-clause-outside
returns-clause-outside g c = grind (arith, common_steps)

pub returns-clause-fits : goal.returns-clause-fits
returns-clause-fits g c = grind (arith, common_steps)
