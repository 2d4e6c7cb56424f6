-- Pictures begin with their letter. What is hidden, and that the output is one, follows from what was written.
use Rattle.std.proofs.Common.{◌∷◌, [], Err, subst, arith, rules, inl}
use Rattle.std.proofs.lemmas.Grind.{common_steps}
use Rattle.std.specs.Io.KnownBytes.{Consumes}
use Rattle.devices.specs.Device.{device_of}
use Rattle.frame_edits.specs.Edits.{edits}
use Rattle.frame_runs.specs.Program.{Writes}
use Rattle.frame_requests.specs.declared.fault.RunFault.TheVariants.{Header}
use Rattle.frame_runs.proofs.Carrying.{behind_first}
use Rattle.frame_runs.proofs.Covered.{hides_covered, one_output_covered, one_seen_covered}
use Rattle.frame_runs.proofs.Failing.{first_failed, pictures_failed}
use Rattle.frame_runs.proofs.Hiding.{Laws, hides}
use Rattle.frame_runs.proofs.OneOutput.{one_output}
use Rattle.frame_runs.proofs.OneSeen.{one_seen}
use Rattle.frame_runs.proofs.Rounds.{behind_letter_stops}
use Rattle.frame_runs.proofs.Seeing.{behind_letter_seen, last_within}
use Rattle.frame_runs.proofs.Within.{within_first}
use Rattle.frame_runs.proofs.program.run.Goals as goal
use Rattle.frame_runs.proofs.program.run.Goals.{After-heads_end_themselves, After-pass_pictures}

laws : (g : _) (c : After-heads_end_themselves g) → Laws
laws g c = record { videos = c.recipes_hide.ensures.videos; pictures = c.recipes_hide.ensures.pictures; videos_filled = c.recipes_hide.ensures.videos_filled; pictures_filled = c.recipes_hide.ensures.pictures_filled; apart = c.heads_end_themselves.ensures.apart; letter = c.heads_end_themselves.ensures.begins }

pictures_written : (g : _) (c : After-pass_pictures g) → Writes c.pass_pictures.result (edits c.args.steps.now c.args.framing) (g.R.Read.remaining (device_of c.args.reader.now)) (g.W.Write.contents (device_of c.args.writer.now)) (g.W.Write.contents (device_of c.pass_pictures.new.writer))
pictures_written g c = behind_first c.args.limit (edits c.args.steps.now c.args.framing) c.pass_pictures.result (g.R.Read.remaining (device_of c.args.reader.now)) (g.R.Read.remaining (device_of c.read_byte.new.reader)) (g.R.Read.remaining (device_of c.pass_pictures.new.reader))
    (g.W.Write.contents (device_of c.args.writer.now)) (g.W.Write.contents (device_of c.pass_pictures.new.writer))
    (subst (λ b. Consumes (g.R.Read.remaining (device_of c.args.reader.now)) (g.R.Read.remaining (device_of c.read_byte.new.reader)) (b ∷ [])) c.in-Ok-Some-eq80.field-0-0-test (rw c.in-Ok-Some-eq80.field-0-is at c.in-Ok-Some-eq80.ensures.byte)) c.pass_pictures.ensures.passes

pub returns-in-Ok-Some-eq80-clause-written : goal.returns-in-Ok-Some-eq80-clause-written
returns-in-Ok-Some-eq80-clause-written g c = pictures_written g (goal.at.returns-in-Ok-Some-eq80-clause-written g c).After-pass_pictures

-- the reader failed after the first byte, or before it
pub returns-in-Ok-Some-eq80-clause-input : goal.returns-in-Ok-Some-eq80-clause-input
returns-in-Ok-Some-eq80-clause-input g c = pictures_failed c.args.limit (edits c.args.steps.now c.args.framing) c.pass_pictures.result (g.R.Read.remaining (device_of c.read_byte.new.reader)) (g.R.Read.remaining (device_of c.pass_pictures.new.reader))
    (g.W.Write.contents (device_of c.args.writer.now)) (g.W.Write.contents (device_of c.pass_pictures.new.writer)) c.pass_pictures.ensures.fails (g.R.Read.remaining (device_of c.args.reader.now))
    (subst (λ b. Consumes (g.R.Read.remaining (device_of c.args.reader.now)) (g.R.Read.remaining (device_of c.read_byte.new.reader)) (b ∷ [])) c.in-Ok-Some-eq80.field-0-0-test (rw c.in-Ok-Some-eq80.field-0-is at c.in-Ok-Some-eq80.ensures.byte))

pub returns-in-Err-clause-input : goal.returns-in-Err-clause-input
returns-in-Err-clause-input g c = first_failed (edits c.args.steps.now c.args.framing) (g.R.Read.remaining (device_of c.args.reader.now)) (g.R.Read.remaining (device_of c.read_byte.new.reader)) (g.W.Write.contents (device_of c.args.writer.now)) c.in-Err.ensures.failed

pub returns-in-Ok-Some-eq80-clause-limit : goal.returns-in-Ok-Some-eq80-clause-limit
returns-in-Ok-Some-eq80-clause-limit g c = within_first c.args.limit (edits c.args.steps.now c.args.framing) c.pass_pictures.result (g.R.Read.remaining (device_of c.args.reader.now)) (g.R.Read.remaining (device_of c.read_byte.new.reader)) (g.R.Read.remaining (device_of c.pass_pictures.new.reader))
    (g.W.Write.contents (device_of c.args.writer.now)) (g.W.Write.contents (device_of c.pass_pictures.new.writer))
    (subst (λ b. Consumes (g.R.Read.remaining (device_of c.args.reader.now)) (g.R.Read.remaining (device_of c.read_byte.new.reader)) (b ∷ [])) c.in-Ok-Some-eq80.field-0-0-test (rw c.in-Ok-Some-eq80.field-0-is at c.in-Ok-Some-eq80.ensures.byte)) c.pass_pictures.ensures.passes

pub returns-in-Ok-Some-eq80-clause-hiding : goal.returns-in-Ok-Some-eq80-clause-hiding
returns-in-Ok-Some-eq80-clause-hiding g c = hides (laws g (goal.at.returns-in-Ok-Some-eq80-clause-hiding g c).After-heads_end_themselves) _ _ _ _ _ (pictures_written g (goal.at.returns-in-Ok-Some-eq80-clause-hiding g c).After-pass_pictures)

pub returns-in-Ok-Some-eq80-clause-one_output : goal.returns-in-Ok-Some-eq80-clause-one_output
returns-in-Ok-Some-eq80-clause-one_output g c = one_output (laws g (goal.at.returns-in-Ok-Some-eq80-clause-one_output g c).After-heads_end_themselves)

pub returns-in-Ok-Some-eq80-clause-stops : goal.returns-in-Ok-Some-eq80-clause-stops
returns-in-Ok-Some-eq80-clause-stops g c = behind_letter_stops c.pass_pictures.result (edits c.args.steps.now c.args.framing) (g.R.Read.remaining (device_of c.args.reader.now)) (g.R.Read.remaining (device_of c.read_byte.new.reader)) (g.R.Read.remaining (device_of c.pass_pictures.new.reader))
    (subst (λ b. Consumes (g.R.Read.remaining (device_of c.args.reader.now)) (g.R.Read.remaining (device_of c.read_byte.new.reader)) (b ∷ [])) c.in-Ok-Some-eq80.field-0-0-test (rw c.in-Ok-Some-eq80.field-0-is at c.in-Ok-Some-eq80.ensures.byte)) c.pass_pictures.ensures.stops

pub returns-in-Ok-Some-clause-hiding : goal.returns-in-Ok-Some-clause-hiding
returns-in-Ok-Some-clause-hiding g c =
    hides (laws g (goal.at.returns-in-Ok-Some-clause-hiding g c).After-heads_end_themselves) c.carry_video.result (edits c.args.steps.now c.args.framing) (g.R.Read.remaining (device_of c.args.reader.now)) (g.W.Write.contents (device_of c.args.writer.now)) (g.W.Write.contents (device_of c.carry_video.new.writer)) (search rules)

pub returns-in-Ok-Some-clause-one_output : goal.returns-in-Ok-Some-clause-one_output
returns-in-Ok-Some-clause-one_output g c = one_output (laws g (goal.at.returns-in-Ok-Some-clause-one_output g c).After-heads_end_themselves)

pub returns-in-Ok-None-clause-hiding : goal.returns-in-Ok-None-clause-hiding
returns-in-Ok-None-clause-hiding g c =
    hides (laws g (goal.at.returns-in-Ok-None-clause-hiding g c).After-heads_end_themselves) (Err Header) (edits c.args.steps.now c.args.framing) (g.R.Read.remaining (device_of c.args.reader.now)) (g.W.Write.contents (device_of c.args.writer.now)) (g.W.Write.contents (device_of c.args.writer.now)) (grind (arith, common_steps))

pub returns-in-Ok-None-clause-one_output : goal.returns-in-Ok-None-clause-one_output
returns-in-Ok-None-clause-one_output g c = one_output (laws g (goal.at.returns-in-Ok-None-clause-one_output g c).After-heads_end_themselves)

pub returns-in-Err-clause-one_output : goal.returns-in-Err-clause-one_output
returns-in-Err-clause-one_output g c = one_output (laws g (goal.at.returns-in-Err-clause-one_output g c).After-heads_end_themselves)

-- the shapes of the pictures or of the video were seen
pub returns-in-Ok-Some-eq80-clause-seen : goal.returns-in-Ok-Some-eq80-clause-seen
returns-in-Ok-Some-eq80-clause-seen g c sees = behind_letter_seen (edits c.args.steps.now c.args.framing) (g.R.Read.remaining (device_of c.args.reader.now)) (g.R.Read.remaining (device_of c.read_byte.new.reader))
    (subst (λ b. Consumes (g.R.Read.remaining (device_of c.args.reader.now)) (g.R.Read.remaining (device_of c.read_byte.new.reader)) (b ∷ [])) c.in-Ok-Some-eq80.field-0-0-test (rw c.in-Ok-Some-eq80.field-0-is at c.in-Ok-Some-eq80.ensures.byte)) c.pass_pictures.result c.pass_pictures.new.seen (c.pass_pictures.ensures.seen sees)

pub returns-in-Ok-Some-clause-seen : goal.returns-in-Ok-Some-clause-seen
returns-in-Ok-Some-clause-seen g c sees = inl (c.carry_video.ensures.seen sees (g.R.Read.remaining (device_of c.args.reader.now)) (rw c.in-Ok-Some.field-0-is at c.in-Ok-Some.ensures.byte))

pub returns-in-Ok-None-clause-seen : goal.returns-in-Ok-None-clause-seen
returns-in-Ok-None-clause-seen g c sees = inl sees

pub returns-in-Err-clause-seen : goal.returns-in-Err-clause-seen
returns-in-Err-clause-seen g c sees = inl (inl sees)

pub returns-in-Ok-Some-eq80-clause-last : goal.returns-in-Ok-Some-eq80-clause-last
returns-in-Ok-Some-eq80-clause-last g c sees = last_within c.pass_pictures.result (edits c.args.steps.now c.args.framing) (g.R.Read.remaining (device_of c.args.reader.now)) c.pass_pictures.new.seen
    (behind_letter_seen (edits c.args.steps.now c.args.framing) (g.R.Read.remaining (device_of c.args.reader.now)) (g.R.Read.remaining (device_of c.read_byte.new.reader))
    (subst (λ b. Consumes (g.R.Read.remaining (device_of c.args.reader.now)) (g.R.Read.remaining (device_of c.read_byte.new.reader)) (b ∷ [])) c.in-Ok-Some-eq80.field-0-0-test (rw c.in-Ok-Some-eq80.field-0-is at c.in-Ok-Some-eq80.ensures.byte)) c.pass_pictures.result c.pass_pictures.new.seen (c.pass_pictures.ensures.seen sees))

pub returns-in-Ok-Some-clause-last : goal.returns-in-Ok-Some-clause-last
returns-in-Ok-Some-clause-last g c sees = last_within c.carry_video.result (edits c.args.steps.now c.args.framing) (g.R.Read.remaining (device_of c.args.reader.now)) c.carry_video.new.seen
    (inl (c.carry_video.ensures.seen sees (g.R.Read.remaining (device_of c.args.reader.now)) (rw c.in-Ok-Some.field-0-is at c.in-Ok-Some.ensures.byte)))

-- ---- what was seen is one

pub returns-in-Ok-Some-eq80-clause-one_seen : goal.returns-in-Ok-Some-eq80-clause-one_seen
returns-in-Ok-Some-eq80-clause-one_seen g c = one_seen (laws g (goal.at.returns-in-Ok-Some-eq80-clause-one_seen g c).After-heads_end_themselves)

pub returns-in-Ok-Some-clause-one_seen : goal.returns-in-Ok-Some-clause-one_seen
returns-in-Ok-Some-clause-one_seen g c = one_seen (laws g (goal.at.returns-in-Ok-Some-clause-one_seen g c).After-heads_end_themselves)

pub returns-in-Ok-None-clause-one_seen : goal.returns-in-Ok-None-clause-one_seen
returns-in-Ok-None-clause-one_seen g c = one_seen (laws g (goal.at.returns-in-Ok-None-clause-one_seen g c).After-heads_end_themselves)

pub returns-in-Err-clause-one_seen : goal.returns-in-Err-clause-one_seen
returns-in-Err-clause-one_seen g c = one_seen (laws g (goal.at.returns-in-Err-clause-one_seen g c).After-heads_end_themselves)

pub returns-in-Ok-Some-eq80-clause-one_seen_covered : goal.returns-in-Ok-Some-eq80-clause-one_seen_covered
returns-in-Ok-Some-eq80-clause-one_seen_covered g c = one_seen_covered (laws g (goal.at.returns-in-Ok-Some-eq80-clause-one_seen_covered g c).After-heads_end_themselves)

pub returns-in-Ok-Some-clause-one_seen_covered : goal.returns-in-Ok-Some-clause-one_seen_covered
returns-in-Ok-Some-clause-one_seen_covered g c = one_seen_covered (laws g (goal.at.returns-in-Ok-Some-clause-one_seen_covered g c).After-heads_end_themselves)

pub returns-in-Ok-None-clause-one_seen_covered : goal.returns-in-Ok-None-clause-one_seen_covered
returns-in-Ok-None-clause-one_seen_covered g c = one_seen_covered (laws g (goal.at.returns-in-Ok-None-clause-one_seen_covered g c).After-heads_end_themselves)

pub returns-in-Err-clause-one_seen_covered : goal.returns-in-Err-clause-one_seen_covered
returns-in-Err-clause-one_seen_covered g c = one_seen_covered (laws g (goal.at.returns-in-Err-clause-one_seen_covered g c).After-heads_end_themselves)

-- ---- what covers and fills cover, where they come first

pub returns-in-Ok-Some-eq80-clause-covers : goal.returns-in-Ok-Some-eq80-clause-covers
returns-in-Ok-Some-eq80-clause-covers g c = hides_covered (laws g (goal.at.returns-in-Ok-Some-eq80-clause-covers g c).After-heads_end_themselves) _ _ _ _ _ (pictures_written g (goal.at.returns-in-Ok-Some-eq80-clause-covers g c).After-pass_pictures)

pub returns-in-Ok-Some-eq80-clause-one_covered : goal.returns-in-Ok-Some-eq80-clause-one_covered
returns-in-Ok-Some-eq80-clause-one_covered g c = one_output_covered (laws g (goal.at.returns-in-Ok-Some-eq80-clause-one_covered g c).After-heads_end_themselves)

pub returns-in-Ok-Some-clause-covers : goal.returns-in-Ok-Some-clause-covers
returns-in-Ok-Some-clause-covers g c =
    hides_covered (laws g (goal.at.returns-in-Ok-Some-clause-covers g c).After-heads_end_themselves) c.carry_video.result (edits c.args.steps.now c.args.framing) (g.R.Read.remaining (device_of c.args.reader.now)) (g.W.Write.contents (device_of c.args.writer.now)) (g.W.Write.contents (device_of c.carry_video.new.writer)) (search rules)

pub returns-in-Ok-Some-clause-one_covered : goal.returns-in-Ok-Some-clause-one_covered
returns-in-Ok-Some-clause-one_covered g c = one_output_covered (laws g (goal.at.returns-in-Ok-Some-clause-one_covered g c).After-heads_end_themselves)

pub returns-in-Ok-None-clause-covers : goal.returns-in-Ok-None-clause-covers
returns-in-Ok-None-clause-covers g c =
    hides_covered (laws g (goal.at.returns-in-Ok-None-clause-covers g c).After-heads_end_themselves) (Err Header) (edits c.args.steps.now c.args.framing) (g.R.Read.remaining (device_of c.args.reader.now)) (g.W.Write.contents (device_of c.args.writer.now)) (g.W.Write.contents (device_of c.args.writer.now)) (grind (arith, common_steps))

pub returns-in-Ok-None-clause-one_covered : goal.returns-in-Ok-None-clause-one_covered
returns-in-Ok-None-clause-one_covered g c = one_output_covered (laws g (goal.at.returns-in-Ok-None-clause-one_covered g c).After-heads_end_themselves)

pub returns-in-Err-clause-one_covered : goal.returns-in-Err-clause-one_covered
returns-in-Err-clause-one_covered g c = one_output_covered (laws g (goal.at.returns-in-Err-clause-one_covered g c).After-heads_end_themselves)
