-- What is filled as one row is filled.
use Rattle.std.proofs.Common.{refl}
use Rattle.image_ops.proofs.Touching.{first_fits, stays_outside, shows_value}
use Rattle.image_ops.proofs.fill.fill_pixels.Goals as goal

pub fill_rows-requires : goal.fill_rows-requires
fill_rows-requires g c = record { fits = first_fits c.args.shape c.args.shape _ _ refl refl c.fewest_rows.ensures c.args.cells.now c.requires.fits }

pub returns-clause-grid : goal.returns-clause-grid
returns-clause-grid g c = shows_value c.args.shape c.args.shape _ _ refl refl c.fewest_rows.ensures c.fill_rows.new.cells c.args.value c.fill_rows.ensures.grid

pub returns-clause-outside : goal.returns-clause-outside
returns-clause-outside g c = stays_outside c.args.shape c.args.shape _ _ refl refl c.fewest_rows.ensures c.args.cells.now c.fill_rows.new.cells c.fill_rows.ensures.outside
