-- The two ends are the whole row.
use Rattle.std.proofs.Common.{◌&&◌, ◌∙◌}
use Rattle.image_ops.proofs.ShortRows.{ends_equal}
use Rattle.image_ops.proofs.short.have_equal_ends.Goals as goal

pub returns : goal.returns
returns g c =
    (λ i. c.are_all_equal-front.ensures i && c.are_all_equal.ensures i)
    ∙ ends_equal g.T.PartialEq.eq c.args.first.now c.args.second.now g.row.N c.requires.as_many c.requires.enough c.requires.few
