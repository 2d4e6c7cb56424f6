use Rattle.frame_formats.specs.Rooms.{HasRoomFor}
use Rattle.bench_jobs.proofs.planes.edit_frames.Given as goal

-- there is room for the blurs of the plan
abbrev pub invariant-loop-number : goal.invariant-loop-number
invariant-loop-number l = HasRoomFor l.plan l.scratch
