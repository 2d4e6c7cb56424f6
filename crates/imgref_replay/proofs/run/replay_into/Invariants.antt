use Rattle.std.proofs.Common.{map, take}
use Rattle.imgref.specs.Image.{vec_layout}
use Rattle.imgref_replay.specs.Run.{IsRun}
use Rattle.imgref_replay.proofs.run.replay_into.Given as goal

-- the commands so far, with the replies so far, are a run
abbrev pub invariant-loop-i : goal.invariant-loop-i
invariant-loop-i g l = IsRun g.T.PartialEq.eq (take l.i l.commands) (map vec_layout l.fn.images) (map vec_layout l.images) (take l.i l.replies)
