-- The packed layout is packed, fits and shows the same grid.
use Rattle.image_model.proofs.Compaction.{packed_is_packed, packed_is_fit, packed_grid}
use Rattle.image_shape.specs.Shape.{shaped}
use Rattle.row_mover.proofs.packing.pack.Goals as goal

pub returns-clause-packed : goal.returns-clause-packed
returns-clause-packed g c = packed_is_packed (shaped c.args.buf.now.items c.args.shape) c.requires.fits

pub returns-clause-fits : goal.returns-clause-fits
returns-clause-fits g c = packed_is_fit (shaped c.args.buf.now.items c.args.shape) c.requires.fits

pub returns-clause-grid : goal.returns-clause-grid
returns-clause-grid g c = packed_grid (shaped c.args.buf.now.items c.args.shape) c.requires.fits
