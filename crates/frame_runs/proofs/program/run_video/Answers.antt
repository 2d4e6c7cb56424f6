-- The line is written, and then the frames.
use Rattle.std.proofs.Common.{◌≡◌, true, [], ◌∷◌, ◌++◌, ℕ, sym, subst, ◌∙◌, arith, inl}
use Rattle.std.specs.Result.{is_err}
use Rattle.std.proofs.KnownBytes.{Keeps-refl}
use Rattle.std.specs.Io.KnownBytes.{Appends}
use Rattle.devices.specs.Whole.{AppendsBeginning}
use Rattle.devices.specs.Device.{device_of}
use Rattle.frame_formats.specs.Planned.{recipe_of}
use Rattle.frame_runs.specs.Request.{edits_of}
use Rattle.frame_runs.specs.Kept.{VideoStops}
use Rattle.frame_runs.specs.Failing.{InputFails}
use Rattle.frame_runs.specs.Limit.{KeepsLimit}
use Rattle.frame_runs.specs.Program.{Follows, Writes}
use Rattle.frame_requests.specs.declared.fault.RunFault.{RunFault}
use Rattle.frame_requests.specs.declared.fault.RunFault.TheVariants.{Output}
use Rattle.std.proofs.Common.{Err}
use Rattle.frame_formats.specs.declared.plans.PlanFault.TheVariants.{Memory as NoMemory}
use Rattle.frame_runs.proofs.Failing.{frames_failed, unplanned_fails}
use Rattle.frame_runs.proofs.Outcomes.{at_ok, at_err}
use Rattle.frame_runs.proofs.Carrying.{begun_line, no_format, not_planned, frames_written}
use Rattle.frame_runs.proofs.Starts.{line_read, plan_stops, video_starts}
use Rattle.frame_runs.specs.Seen.{VideoSees}
use Rattle.frame_runs.proofs.Seeing.{frames_seen, unplanned_seen, video_line}
use Rattle.frame_runs.proofs.Within.{unplanned, video_within}
use Rattle.frame_runs.proofs.program.run_video.Goals as goal
use Rattle.frame_runs.proofs.program.run_video.Goals.{After-is_err, After-pass_frames}

pub returns-in_default-clause-follows : goal.returns-in_default-clause-follows
returns-in_default-clause-follows g c = no_format (edits_of c.args.request) c.args.line.now (g.R.Read.remaining (device_of c.args.reader.now)) (g.W.Write.contents (device_of c.args.writer.now)) c.requires.one_line c.requires.kind (sym c.in_default.ensures)

pub returns-in-Err-clause-follows : goal.returns-in-Err-clause-follows
returns-in-Err-clause-follows g c input read = subst (λ (e : RunFault). Writes (Err e) (edits_of c.args.request) input (g.W.Write.contents (device_of c.args.writer.now)) (g.W.Write.contents (device_of c.args.writer.now))) (sym c.fault_of_plan.ensures)
    (not_planned c.in-Err.fault (edits_of c.args.request) c.args.line.now c.in-Some.format (g.R.Read.remaining (device_of c.args.reader.now)) (g.W.Write.contents (device_of c.args.writer.now)) c.requires.one_line c.requires.short c.requires.kind (sym c.in-Some.ensures) c.in-Err.ensures.fault input read)

-- more bytes than the limit, or no memory
pub returns-in-Err-make_buffers-clause-follows : goal.returns-in-Err-make_buffers-clause-follows
returns-in-Err-make_buffers-clause-follows g c input read = subst (λ (e : RunFault). Writes (Err e) (edits_of c.args.request) input (g.W.Write.contents (device_of c.args.writer.now)) (g.W.Write.contents (device_of c.args.writer.now))) (sym c.in-Err-make_buffers.ensures.memory)
    (not_planned NoMemory (edits_of c.args.request) c.args.line.now c.in-Some.format (g.R.Read.remaining (device_of c.args.reader.now)) (g.W.Write.contents (device_of c.args.writer.now)) c.requires.one_line c.requires.short c.requires.kind (sym c.in-Some.ensures) tt input read)

-- a beginning of the line was written
line_begun : (g : _) (c : After-is_err g) → is_err c.write_all.result ≡ true → Follows (Err Output) (edits_of c.args.request) (c.args.line.now ++ 10 ∷ []) (g.R.Read.remaining (device_of c.args.reader.now)) (g.W.Write.contents (device_of c.args.writer.now)) (g.W.Write.contents (device_of c.write_all.new.writer))
line_begun g c failed input read =
    let old = g.W.Write.contents (device_of c.args.writer.now) in
    let new = g.W.Write.contents (device_of c.write_all.new.writer) in
    let wrote : AppendsBeginning old new c.head.result.now = at_err c.write_all.result failed c.write_all.ensures.beginning in
    begun_line (edits_of c.args.request) c.args.line.now (recipe_of c.in-Ok.plan) (c.requires.one_line, c.requires.short, c.in-Ok.ensures.plan) c.requires.kind input (g.R.Read.remaining (device_of c.args.reader.now)) old new read (subst (AppendsBeginning old new) c.head.ensures wrote)

-- the line was written, and then the frames
frames_follow : (g : _) (c : After-pass_frames g) → Follows c.pass_frames.result (edits_of c.args.request) (c.args.line.now ++ 10 ∷ []) (g.R.Read.remaining (device_of c.args.reader.now)) (g.W.Write.contents (device_of c.args.writer.now)) (g.W.Write.contents (device_of c.pass_frames.new.writer))
frames_follow g c input read =
    let old = g.W.Write.contents (device_of c.args.writer.now) in
    let held = g.W.Write.contents (device_of c.write_all.new.writer) in
    let wrote : Appends old held c.head.result.now = at_ok c.write_all.result (sym c.is_err.ensures.value ∙ c.if-is_err.false) c.write_all.ensures.whole in
    frames_written (edits_of c.args.request) c.args.line.now (recipe_of c.in-Ok.plan) (c.requires.one_line, c.requires.short, c.in-Ok.ensures.plan) c.requires.kind (g.R.Read.remaining (device_of c.args.reader.now)) old held (subst (Appends old held) c.head.ensures wrote) c.pass_frames.result input (g.R.Read.remaining (device_of c.pass_frames.new.reader))
    (g.W.Write.contents (device_of c.pass_frames.new.writer)) read c.pass_frames.ensures.passes

pub returns-then-is_err-clause-follows : goal.returns-then-is_err-clause-follows
returns-then-is_err-clause-follows g c = line_begun g (goal.at.returns-then-is_err-clause-follows g c).After-is_err (sym c.is_err.ensures.value ∙ c.if-is_err.true)

pub returns-clause-follows : goal.returns-clause-follows
returns-clause-follows g c = frames_follow g (goal.at.returns-clause-follows g c).After-pass_frames

-- ---- the reader failed

pub returns-in-Err-clause-fails : goal.returns-in-Err-clause-fails
returns-in-Err-clause-fails g c input read = subst (λ (e : RunFault). InputFails (Err e) (edits_of c.args.request) input (g.R.Read.remaining (device_of c.args.reader.now)) (g.W.Write.contents (device_of c.args.writer.now)) (g.W.Write.contents (device_of c.args.writer.now))) (sym c.fault_of_plan.ensures)
    (unplanned_fails c.in-Err.fault (edits_of c.args.request) input (g.R.Read.remaining (device_of c.args.reader.now)) (g.W.Write.contents (device_of c.args.writer.now)) (g.W.Write.contents (device_of c.args.writer.now)))

pub returns-in-Err-make_buffers-clause-fails : goal.returns-in-Err-make_buffers-clause-fails
returns-in-Err-make_buffers-clause-fails g c input read = subst (λ (e : RunFault). InputFails (Err e) (edits_of c.args.request) input (g.R.Read.remaining (device_of c.args.reader.now)) (g.W.Write.contents (device_of c.args.writer.now)) (g.W.Write.contents (device_of c.args.writer.now))) (sym c.in-Err-make_buffers.ensures.memory) tt

pub returns-clause-fails : goal.returns-clause-fails
returns-clause-fails g c =
    let old = g.W.Write.contents (device_of c.args.writer.now) in
    let held = g.W.Write.contents (device_of c.write_all.new.writer) in
    let wrote : Appends old held c.head.result.now = at_ok c.write_all.result (sym c.is_err.ensures.value ∙ c.if-is_err.false) c.write_all.ensures.whole in
    frames_failed (edits_of c.args.request) c.args.line.now (recipe_of c.in-Ok.plan) (c.requires.one_line, c.requires.short, c.in-Ok.ensures.plan) c.requires.kind (g.R.Read.remaining (device_of c.args.reader.now)) old held (subst (Appends old held) c.head.ensures wrote) c.pass_frames.result (g.R.Read.remaining (device_of c.pass_frames.new.reader))
    (g.W.Write.contents (device_of c.pass_frames.new.writer)) c.pass_frames.ensures.fails

-- ---- the buffers are within the limit

pub returns-in_default-clause-limit : goal.returns-in_default-clause-limit
returns-in_default-clause-limit g c input read = inl (Keeps-refl _)

pub returns-in-Err-clause-limit : goal.returns-in-Err-clause-limit
returns-in-Err-clause-limit g c input read = subst (λ (e : RunFault). KeepsLimit (Err e) c.args.request.limit (edits_of c.args.request) input (g.W.Write.contents (device_of c.args.writer.now)) (g.W.Write.contents (device_of c.args.writer.now))) (sym c.fault_of_plan.ensures)
    (unplanned c.args.request.limit (edits_of c.args.request) c.in-Err.fault input (g.W.Write.contents (device_of c.args.writer.now)))

pub returns-in-Err-make_buffers-clause-limit : goal.returns-in-Err-make_buffers-clause-limit
returns-in-Err-make_buffers-clause-limit g c input read = subst (λ (e : RunFault). KeepsLimit (Err e) c.args.request.limit (edits_of c.args.request) input (g.W.Write.contents (device_of c.args.writer.now)) (g.W.Write.contents (device_of c.args.writer.now))) (sym c.in-Err-make_buffers.ensures.memory)
    (inl (Keeps-refl _))

pub returns-then-is_err-clause-limit : goal.returns-then-is_err-clause-limit
returns-then-is_err-clause-limit g c input read =
    video_within c.args.request.limit (edits_of c.args.request) c.args.line.now (recipe_of c.in-Ok.plan) (c.requires.one_line, c.requires.short, c.in-Ok.ensures.plan) c.in-Ok-make_buffers.ensures.within _ _ c.requires.kind (Err Output) input _ read
    (line_begun g (goal.at.returns-then-is_err-clause-limit g c).After-is_err (sym c.is_err.ensures.value ∙ c.if-is_err.true) input read)

pub returns-clause-limit : goal.returns-clause-limit
returns-clause-limit g c input read =
    video_within c.args.request.limit (edits_of c.args.request) c.args.line.now (recipe_of c.in-Ok.plan) (c.requires.one_line, c.requires.short, c.in-Ok.ensures.plan) c.in-Ok-make_buffers.ensures.within _ _ c.requires.kind c.pass_frames.result input _ read
    (frames_follow g (goal.at.returns-clause-limit g c).After-pass_frames input read)

-- out of memory, where the first edit is one of the video
pub returns-in-Err-clause-stops : goal.returns-in-Err-clause-stops
returns-in-Err-clause-stops g c input read = subst (λ (e : RunFault). VideoStops {T = ℕ} (Err e) (edits_of c.args.request) input (g.R.Read.remaining (device_of c.args.reader.now))) (sym c.fault_of_plan.ensures)
    (plan_stops (edits_of c.args.request) c.args.line.now c.in-Some.format c.in-Err.fault (sym c.in-Some.ensures) c.in-Err.ensures.memory input (g.R.Read.remaining (device_of c.args.reader.now)) read)

pub returns-in-Err-make_buffers-clause-stops : goal.returns-in-Err-make_buffers-clause-stops
returns-in-Err-make_buffers-clause-stops g c input read = subst (λ (e : RunFault). VideoStops {T = ℕ} (Err e) (edits_of c.args.request) input (g.R.Read.remaining (device_of c.args.reader.now))) (sym c.in-Err-make_buffers.ensures.memory)
    (line_read (edits_of c.args.request) c.args.line.now c.in-Some.format (sym c.in-Some.ensures) (video_starts (edits_of c.args.request) c.args.line.now c.in-Some.format (recipe_of c.in-Ok.plan) (sym c.in-Some.ensures) c.in-Ok.ensures.plan) input (g.R.Read.remaining (device_of c.args.reader.now)) read)

-- ---- the line was seen

pub returns-in-Err-clause-seen : goal.returns-in-Err-clause-seen
returns-in-Err-clause-seen g c sees input read = subst (λ (e : RunFault). VideoSees (Err e) (edits_of c.args.request) input c.see.new.self) (sym c.fault_of_plan.ensures)
    (unplanned_seen c.in-Err.fault (edits_of c.args.request) input c.see.new.self (video_line (edits_of c.args.request) c.args.line.now c.in-Some.format c.requires.one_line c.requires.kind (sym c.in-Some.ensures) input _ read _ c.read_rate.ensures c.see.new.self c.see.ensures.shape (c.see.ensures.sees [] sees (omega (arith, sees.last)))))

pub returns-in-Err-make_buffers-clause-seen : goal.returns-in-Err-make_buffers-clause-seen
returns-in-Err-make_buffers-clause-seen g c sees input read = subst (λ (e : RunFault). VideoSees (Err e) (edits_of c.args.request) input c.see.new.self) (sym c.in-Err-make_buffers.ensures.memory)
    (video_line (edits_of c.args.request) c.args.line.now c.in-Some.format c.requires.one_line c.requires.kind (sym c.in-Some.ensures) input _ read _ c.read_rate.ensures c.see.new.self c.see.ensures.shape (c.see.ensures.sees [] sees (omega (arith, sees.last))))

pub returns-then-is_err-clause-seen : goal.returns-then-is_err-clause-seen
returns-then-is_err-clause-seen g c sees input read =
    video_line (edits_of c.args.request) c.args.line.now c.in-Some.format c.requires.one_line c.requires.kind (sym c.in-Some.ensures) input _ read _ c.read_rate.ensures c.see.new.self c.see.ensures.shape (c.see.ensures.sees [] sees (omega (arith, sees.last)))

pub returns-clause-seen : goal.returns-clause-seen
returns-clause-seen g c sees input read =
    frames_seen c.pass_frames.result (recipe_of c.in-Ok.plan) (edits_of c.args.request) input c.see.new.self _ _ _ _ c.pass_frames.ensures.passes
    (video_line (edits_of c.args.request) c.args.line.now c.in-Some.format c.requires.one_line c.requires.kind (sym c.in-Some.ensures) input _ read _ c.read_rate.ensures c.see.new.self c.see.ensures.shape (c.see.ensures.sees [] sees (omega (arith, sees.last))))
