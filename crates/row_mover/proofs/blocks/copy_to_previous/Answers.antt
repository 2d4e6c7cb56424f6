-- The part is the stretch and one cell more.
use Rattle.row_mover.proofs.Stretches.{part_counted, previous_shifted}
use Rattle.row_mover.proofs.blocks.copy_to_previous.Goals as goal

pub returns : goal.returns
returns g c =
    let part = part_counted c.args.cells.now c.args.target c.args.len 1 c.requires.source in
    rw (c.pull_front.ensures, part.0, part.1) (previous_shifted c.args.cells.now c.args.target c.args.len 1 c.requires.source)
