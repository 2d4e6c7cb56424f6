-- Images of equal bytes feed the same rows.
use Rattle.std.proofs.Common.{rules}
use Rattle.imgref.specs.Image.{layout_by}
use Rattle.imgref.proofs.FedRows.{as_if_fed}
use Rattle.imgref.proofs.img.Img.hash_rows.Goals as goal

pub returns-clause-alike : goal.returns-clause-alike
returns-clause-alike g c = as_if_fed g.H.Hasher.write c.args.state.now c.hash_rows.new.state (layout_by g.C.AsSlice.cells c.args.self.now) (search rules)
