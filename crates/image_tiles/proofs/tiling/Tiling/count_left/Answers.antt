-- As many are left as there are from the next one on in its tile row, and in the tile rows below.
use Rattle.std.proofs.Common.{rules}
use Rattle.std.proofs.lemmas.Bool.Decides.{nat_tests}
use Rattle.image_tiles.proofs.Tilings.{counted, sum_is, sum_past}
use Rattle.image_tiles.proofs.tiling.Tiling.count_left.Goals as goal

pub returns-in-Some : goal.returns-in-Some
returns-in-Some c = search (rules, counted, sum_is, sum_past, nat_tests)

pub returns-in-None-clause-none : goal.returns-in-None-clause-none
returns-in-None-clause-none c none = search (rules, counted, nat_tests)
