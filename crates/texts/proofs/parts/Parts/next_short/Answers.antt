use Rattle.std.proofs.Common.{arith}
use Rattle.texts.specs.Reading.{number_of}
use Rattle.texts.proofs.ShortNumbers.{first_and_others, first_alone}
use Rattle.texts.proofs.parts.Parts.next_short.Goals as goal

pub returns-then-digits-rest-clause-found : goal.returns-then-digits-rest-clause-found
returns-then-digits-rest-clause-found c = rw c.in_ok-rest.was
    (first_and_others number_of c.args.self.now.separator c.in_ok-rest.rest.now c.in_ok-number.digits c.in_ok-number.number c.in_ok-number.ensures.digits c.in_ok-number.ensures.number (omega arith))

pub returns-clause-found : goal.returns-clause-found
returns-clause-found c = rw c.in_ok-rest.was
    (first_alone number_of c.args.self.now.separator c.in_ok-rest.rest.now c.in_ok-number.digits c.in_ok-number.number c.in_ok-number.ensures.digits c.in_ok-number.ensures.number (omega arith))
