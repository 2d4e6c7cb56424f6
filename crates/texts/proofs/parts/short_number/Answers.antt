use Rattle.std.proofs.Common.{arith}
use Rattle.texts.proofs.ShortNumbers.{number_three}
use Rattle.texts.proofs.parts.short_number.Goals as goal

pub returns-then-bytes-eq3-clause-number : goal.returns-then-bytes-eq3-clause-number
returns-then-bytes-eq3-clause-number c = grind (arith, number_three)
