use Rattle.std.proofs.Common.{arith}
use Rattle.std.proofs.lemmas.Grind.{common_steps}
use Rattle.image_turns.proofs.pixel_turning.orient_pixels.Goals as goal

pub orient_cells-requires : goal.orient_cells-requires
orient_cells-requires g c = grind (arith, common_steps)

pub orient_each-requires-in_default : goal.orient_each-requires-in_default
orient_each-requires-in_default g c = grind (arith, common_steps)
