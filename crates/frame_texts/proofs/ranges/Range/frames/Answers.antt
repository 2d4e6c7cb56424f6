-- The frames that are found are those of the definition, which has exactly those of the range.
use Rattle.std.proofs.Common.{◌≡◌, subst, sym, arith}
use Rattle.frame_texts.specs.Ranges.{frames_in, AreExactly}
use Rattle.frame_texts.proofs.Times.{found_exactly}
use Rattle.frame_texts.proofs.ranges.Range.frames.Goals as goal

pub returns-after-to-clause-exact : goal.returns-after-to-clause-exact
returns-after-to-clause-exact c =
    let found : c.then_some.result ≡ frames_in c.args.rate c.args.self = grind arith in
    subst (AreExactly c.args.rate c.args.self) (sym found) (found_exactly c.args.rate c.args.self)
