-- Each frame that was read is written as it becomes.
use Rattle.std.proofs.Common.{Err, arith, sym, subst}
use Rattle.devices.specs.Device.{device_of}
use Rattle.frame_formats.specs.Planned.{recipe_of}
use Rattle.std.proofs.lemmas.Grind.{common_steps}
use Rattle.frame_runs.specs.Failing.{FramesFail}
use Rattle.frame_runs.specs.Passing.{PassesFrames}
use Rattle.frame_requests.specs.declared.fault.RunFault.{RunFault}
use Rattle.frame_runs.proofs.Failing.{frame_failed, line_failed}
use Rattle.frame_runs.proofs.HandedOn.{handed_on}
use Rattle.frame_runs.proofs.Rounds.{frame_passed, frame_stopped, no_frame, last_frame, nothing_said}
use Rattle.frame_runs.proofs.frames.pass_frames.Goals as goal

pub returns-in_err-pass_cells-clause-passes : goal.returns-in_err-pass_cells-clause-passes
returns-in_err-pass_cells-clause-passes g c =
    handed_on (λ r. PassesFrames r (recipe_of c.args.plan.now) (g.R.Read.remaining (device_of c.args.reader.now)) (g.R.Read.remaining (device_of c.pass_cells.new.reader)) (g.W.Write.contents (device_of c.args.writer.now)) (g.W.Write.contents (device_of c.pass_cells.new.writer)))
    c.from_residual-in_err-pass_cells.result c.in_err-pass_cells.field-0.0 c.from_residual-in_err-pass_cells.ensures
    (frame_stopped (recipe_of c.args.plan.now) c.loop-number.number c.in-Frame.len (omega arith) c.read_frame_line.new.line _ _ _ _ _ _ _ c.loop-number.invariant.passed (rw c.in-Frame.is at c.in_ok-len.ensures.found)
    c.in_err-pass_cells.field-0.0 c.in_err-pass_cells.ensures.passes)

-- the line of a frame can't be read
pub returns-in_err-len-clause-passes : goal.returns-in_err-len-clause-passes
returns-in_err-len-clause-passes g c =
    let left = g.R.Read.remaining (device_of c.loop-number.reader) in
    let passes = λ (e : RunFault). PassesFrames (Err e) (recipe_of c.args.plan.now) (g.R.Read.remaining (device_of c.args.reader.now)) (g.R.Read.remaining (device_of c.read_frame_line.new.reader)) (g.W.Write.contents (device_of c.args.writer.now)) (g.W.Write.contents (device_of c.loop-number.writer)) in
    handed_on (λ r. PassesFrames r (recipe_of c.args.plan.now) (g.R.Read.remaining (device_of c.args.reader.now)) (g.R.Read.remaining (device_of c.read_frame_line.new.reader)) (g.W.Write.contents (device_of c.args.writer.now)) (g.W.Write.contents (device_of c.loop-number.writer)))
    c.from_residual.result c.in_err-len.field-0.0 c.from_residual.ensures
    (subst passes (sym c.in_err-len.ensures.found.0) (record {
      count = c.loop-number.number;
      up_to = record { left = left; passed = c.loop-number.invariant.passed; ends = nothing_said c.loop-number.number left };
    }))

-- where the reader failed, what it gave is an input of its own
pub returns-in_err-pass_cells-clause-fails : goal.returns-in_err-pass_cells-clause-fails
returns-in_err-pass_cells-clause-fails g c =
    handed_on (λ r. FramesFail r (recipe_of c.args.plan.now) (g.R.Read.remaining (device_of c.args.reader.now)) (g.R.Read.remaining (device_of c.pass_cells.new.reader)) (g.W.Write.contents (device_of c.args.writer.now)) (g.W.Write.contents (device_of c.pass_cells.new.writer)))
    c.from_residual-in_err-pass_cells.result c.in_err-pass_cells.field-0.0 c.from_residual-in_err-pass_cells.ensures
    (frame_failed (recipe_of c.args.plan.now) c.loop-number.number c.in-Frame.len (omega arith) c.read_frame_line.new.line _ _ _ _ _ _ _ c.loop-number.invariant.passed (rw c.in-Frame.is at c.in_ok-len.ensures.found)
    c.in_err-pass_cells.field-0.0 c.in_err-pass_cells.ensures.passes)

pub returns-in_err-len-clause-fails : goal.returns-in_err-len-clause-fails
returns-in_err-len-clause-fails g c =
    let fails = λ (e : RunFault). FramesFail (Err e) (recipe_of c.args.plan.now) (g.R.Read.remaining (device_of c.args.reader.now)) (g.R.Read.remaining (device_of c.read_frame_line.new.reader)) (g.W.Write.contents (device_of c.args.writer.now)) (g.W.Write.contents (device_of c.loop-number.writer)) in
    handed_on (λ r. FramesFail r (recipe_of c.args.plan.now) (g.R.Read.remaining (device_of c.args.reader.now)) (g.R.Read.remaining (device_of c.read_frame_line.new.reader)) (g.W.Write.contents (device_of c.args.writer.now)) (g.W.Write.contents (device_of c.loop-number.writer)))
    c.from_residual.result c.in_err-len.field-0.0 c.from_residual.ensures
    (subst fails (sym c.in_err-len.ensures.found.0) (line_failed (recipe_of c.args.plan.now) c.loop-number.number (omega arith) _ _ _ _ _ c.loop-number.invariant.passed c.in_err-len.ensures.found.1))

pub loop-number-preserved : goal.loop-number-preserved
loop-number-preserved g c = record {
  passed = frame_passed (recipe_of c.args.plan.now) c.loop-number.number c.in-Frame.len (omega arith) c.read_frame_line.new.line _ _ _ _ _ _ _ c.loop-number.invariant.passed (rw c.in-Frame.is at c.in_ok-len.ensures.found) tt c.in_ok-pass_cells.ensures.passes;
  cells = grind (arith, common_steps);
  other = grind (arith, common_steps);
  scratch = c.in_ok-pass_cells.ensures.same_scratch (recipe_of c.args.plan.now).jobs c.loop-number.invariant.scratch;
  read = grind (arith, common_steps);
  written = grind (arith, common_steps);
}

-- no line of a frame
pub returns-in-Other-clause-passes : goal.returns-in-Other-clause-passes
returns-in-Other-clause-passes g c = no_frame (recipe_of c.args.plan.now) c.loop-number.number _ _ _ _ c.loop-number.invariant.passed (rw c.in-Other.is at c.in_ok-len.ensures.found)

-- as many frames as a number counts
pub returns-clause-passes : goal.returns-clause-passes
returns-clause-passes g c = last_frame (recipe_of c.args.plan.now) c.loop-number.number _ _ _ _ c.loop-number.invariant.passed (omega arith)
