use Rattle.frame_texts.proofs.BothBoxes.{has_both}
use Rattle.frame_texts.proofs.tracks.around.Goals as goal

pub returns-clause-both : goal.returns-clause-both
returns-clause-both c =
    rw (c.both_sides.ensures.start, c.both_sides.ensures.extent, c.both_sides-2.ensures.start, c.both_sides-2.ensures.extent) (has_both c.args.first.now c.args.next.now)
