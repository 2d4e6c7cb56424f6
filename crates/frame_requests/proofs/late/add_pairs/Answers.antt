-- An edit that doesn't come too early has no pair.
use Rattle.std.proofs.Common.{◌≡◌, false, arith}
use Rattle.frame_requests.specs.Late.{is_early}
use Rattle.frame_requests.proofs.LatePairs.{none_among}
use Rattle.frame_requests.proofs.late.add_pairs.Goals as goal

pub returns-then-not-is_early : goal.returns-then-not-is_early
returns-then-not-is_early c =
    let none : is_early c.args.hiding c.args.before.edit.change ≡ false = grind (arith, c.is_early.ensures, c.if-not-is_early.true) in
    none_among c.args.hiding c.args.before.number c.args.before.edit c.args.others.now c.args.pairs.now.items none
