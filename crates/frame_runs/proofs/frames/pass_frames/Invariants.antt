use Rattle.std.proofs.Common.{◌≡◌, ◌≤◌}
use Rattle.std.specs.Prelude.{vec_capacity}
use Rattle.frame_formats.specs.Planned.{recipe_of, plan_room, plan_other_room}
use Rattle.image_planes.specs.Scratch.{HasRoom}
use Rattle.frame_runs.specs.Passing.{Passed}
use Rattle.frame_runs.specs.Video.{FrameHead}
use Rattle.devices.specs.Device.{device_of, failures_of}
use Rattle.frame_runs.proofs.frames.pass_frames.Given as goal

-- so many frames were read, and written as they become
abbrev pub invariant-loop-number : goal.invariant-loop-number
invariant-loop-number g l = record {
  passed : Passed (FrameHead (recipe_of l.plan)) l.number (g.R.Read.remaining (device_of l.initial.reader)) (g.R.Read.remaining (device_of l.reader)) (g.W.Write.contents (device_of l.initial.writer)) (g.W.Write.contents (device_of l.writer));
  cells : plan_room l.plan ≤ vec_capacity l.cells;
  other : plan_other_room l.plan ≤ vec_capacity l.other;
  scratch : HasRoom (recipe_of l.plan).jobs l.scratch;
  read : failures_of l.reader ≡ failures_of l.initial.reader;
  written : failures_of l.writer ≡ failures_of l.initial.writer;
}
