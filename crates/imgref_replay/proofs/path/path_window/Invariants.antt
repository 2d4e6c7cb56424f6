use Rattle.imgref_replay.proofs.Paths.{IsAlong}
use Rattle.imgref_replay.proofs.path.path_window.Given as goal

abbrev pub invariant-loop-index : goal.invariant-loop-index
invariant-loop-index l = IsAlong l.width l.height l.path l.index l.found
