-- The line is cut at the first white space.
use Rattle.std.proofs.Common.{sym}
use Rattle.texts.proofs.PartsCut.{slice_split-at, slice_split-whole}
use Rattle.frame_texts.proofs.lines.next_piece.Goals as goal

pub returns-in-Some : goal.returns-in-Some
returns-in-Some c = slice_split-at _ c.args.line.now c.in-Some.at (sym c.in-Some.ensures)

pub returns-in-None : goal.returns-in-None
returns-in-None c = slice_split-whole _ c.args.line.now (sym c.in-None.ensures)
