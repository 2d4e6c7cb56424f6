-- One part after the other.
use Rattle.std.proofs.Common.{◌++◌, codes}
use Rattle.frame_messages.specs.Bare.{bare_count_text, bare_start, stretch_text}
use Rattle.frame_messages.proofs.Written.{both_written, then_written}
use Rattle.frame_messages.proofs.report.say_bare.Goals as goal

pub returns : goal.returns
returns g c =
    let begun = bare_start c.args.is_fault in
    let counted = bare_count_text c.args.count c.args.bare in
    let words = codes " frames have no box, " in
    then_written c.say_stretch.result _ _ _ ((begun ++ counted) ++ words) (stretch_text c.args.bare)
    (both_written _ _ _ (begun ++ counted) words (both_written _ _ _ begun counted c.in_ok-begin_bare.ensures c.in_ok-say_bare_count.ensures) c.in_ok-write_all.ensures.bytes) c.say_stretch.ensures
