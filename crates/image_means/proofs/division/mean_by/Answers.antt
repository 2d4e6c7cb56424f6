-- The product fits, and it is the quotient.
use Rattle.std.proofs.Common.{◌∙◌, arith}
use Rattle.image_means.proofs.Factors.{small, mean_by_factor, product_fits}
use Rattle.image_means.proofs.division.mean_by.Goals as goal

pub quotient_by-requires : goal.quotient_by-requires
quotient_by-requires c =
    let a = c.args in
    let so = small a.count a.factor c.requires.factor c.if-factor-gt0.true in
    omega (arith, product_fits a.sum a.count c.requires.some so.0 c.requires.samples a.factor so.1)

pub returns-then-factor-gt0 : goal.returns-then-factor-gt0
returns-then-factor-gt0 c = c.quotient_by.ensures ∙ mean_by_factor c.args.sum c.args.count c.args.factor c.requires.some c.requires.factor c.if-factor-gt0.true c.requires.samples
