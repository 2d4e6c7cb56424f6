-- A window of whole pixels has whole pixels in a row of cells.
use Rattle.std.proofs.Common.{◌%◌, ap, ◌∙◌}
use Rattle.std.proofs.Math.Nat.{mul-mod_right}
use Rattle.image_model.specs.Windows.{Window}
use Rattle.imgref_c.proofs.blurs.blur.Goals as goal

pub blur_part-requires-clause-whole : goal.blur_part-requires-clause-whole
blur_part-requires-clause-whole c =
    ap (λ (w : Window). w.width % c.args.claimed.channels) c.in-Ok.ensures.part.window
    ∙ mul-mod_right c.args.claimed.channels c.args.window.width
