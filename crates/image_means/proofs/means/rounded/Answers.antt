-- A rest of at least a half counts as one more.
use Rattle.image_means.proofs.Rounding.{rounded_up, rounded_down}
use Rattle.image_means.proofs.means.rounded.Goals as goal

pub returns-then-rest-count : goal.returns-then-rest-count
returns-then-rest-count c = rounded_down c.args.sum c.args.count c.requires c.if-rest-count.true

pub returns-else-rest-count : goal.returns-else-rest-count
returns-else-rest-count c = rounded_up c.args.sum c.args.count c.requires c.if-rest-count.false
