use Rattle.std.proofs.Common.{map, length}
use Rattle.imgref.specs.Image.{vec_layout}
use Rattle.script_text.specs.Script.{lines_of, lines_left}
use Rattle.imgref_run.proofs.Replays.{IsSoFar}
use Rattle.imgref_run.proofs.program.replay_script.Given as goal

abbrev pub invariant-loop-text : goal.invariant-loop-text
invariant-loop-text l = IsSoFar (lines_of l.bytes) l.script (map vec_layout l.images.items) l.text.items

abbrev pub decreases-loop-text : goal.decreases-loop-text
decreases-loop-text l = length (lines_left l.script)
