use Rattle.std.proofs.Common.{sym}
use Rattle.texts.proofs.PartsCut.{slice_split-at, slice_split-whole}
use Rattle.texts.proofs.parts.Parts.next_part.Goals as goal

pub returns-in-Some : goal.returns-in-Some
returns-in-Some c = rw c.in_ok-rest.was (slice_split-at _ c.in_ok-rest.rest.now c.in-Some.at (sym c.in-Some.ensures))

pub returns-in-None : goal.returns-in-None
returns-in-None c = rw c.in_ok-rest.was (slice_split-whole _ c.in_ok-rest.rest.now (sym c.in-None.ensures))
