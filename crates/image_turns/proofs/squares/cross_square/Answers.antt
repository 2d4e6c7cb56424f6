-- A pixel of one cell is that cell.
use Rattle.std.proofs.Common.{sym, subst}
use Rattle.image_writes.specs.Written.{Becomes}
use Rattle.image_turns.specs.declared.pixel_turning.Orientation.TheVariants.{Transposed}
use Rattle.image_turns.proofs.Oriented.{placed_cells}
use Rattle.image_turns.proofs.squares.cross_square.Goals as goal

pub returns-in-Some : goal.returns-in-Some
returns-in-Some g c = subst (Becomes c.args.shape _ _) (sym (placed_cells Transposed _)) c.cross_pairs.ensures
