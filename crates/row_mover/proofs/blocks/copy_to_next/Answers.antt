-- The part is the stretch and one cell more.
use Rattle.row_mover.proofs.Stretches.{part_counted, next_shifted}
use Rattle.row_mover.proofs.blocks.copy_to_next.Goals as goal

pub returns : goal.returns
returns g c =
    let part = part_counted c.args.cells.now c.args.start c.args.len 1 c.requires.source in
    rw (c.push_back.ensures, part.0, part.1) (next_shifted c.args.cells.now c.args.start c.args.len 1 c.requires.source)
