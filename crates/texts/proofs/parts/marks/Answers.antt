use Rattle.std.proofs.Common.{eqb, w8, arith}
use Rattle.std.proofs.lemmas.Simd.{bitmask_splat}
use Rattle.texts.proofs.parts.marks.Goals as goal

pub returns : goal.returns
returns g c = bitmask_splat w8 eqb c.args.lanes g.row.N c.args.byte c.fits-lanes.0 (omega arith)
