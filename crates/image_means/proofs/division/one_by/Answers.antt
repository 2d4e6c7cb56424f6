-- The rest of the first division is divided too.
use Rattle.std.proofs.Common.{◌^◌, ◌+◌, ◌*◌, ◌∙◌}
use Rattle.image_means.proofs.Factors.{in_two}
use Rattle.image_means.proofs.division.one_by.Goals as goal

pub returns : goal.returns
returns c = (λ i. c.from.ensures i * 65536 + c.from-2.ensures i) ∙ in_two (2 ^ 31) 65536 c.args.count c.requires.some
