use Rattle.std.proofs.Common.{arith}
use Rattle.std.proofs.lemmas.Grind.{common_steps}
use Rattle.image_turns.proofs.squares.turn_in_place.Goals as goal

pub returns-in-Right-clause-outside : goal.returns-in-Right-clause-outside
returns-in-Right-clause-outside g c = grind (arith, common_steps)

pub returns-in-Half-clause-outside : goal.returns-in-Half-clause-outside
returns-in-Half-clause-outside g c = grind (arith, common_steps)

pub returns-in-Left-clause-outside : goal.returns-in-Left-clause-outside
returns-in-Left-clause-outside g c = grind (arith, common_steps)

pub transpose_square-requires-in-Left-clause-fits : goal.transpose_square-requires-in-Left-clause-fits
transpose_square-requires-in-Left-clause-fits g c = grind (arith, common_steps)

pub transpose_square-requires-clause-fits : goal.transpose_square-requires-clause-fits
transpose_square-requires-clause-fits g c = grind (arith, common_steps)
