-- Each picture that was read is written as it becomes.
use Rattle.std.proofs.Common.{arith, ◌+◌, ◌∷◌, [], refl, subst, inl}
use Rattle.std.specs.Io.KnownBytes.{Consumes}
use Rattle.std.proofs.lemmas.Grind.{common_steps}
use Rattle.devices.specs.Device.{device_of}
use Rattle.frame_runs.specs.Request.{edits_of}
use Rattle.frame_runs.specs.Pictures.{PictureWithin, behind_letter}
use Rattle.frame_runs.specs.Failing.{PicturesFail}
use Rattle.frame_runs.specs.Kept.{PicturesStop}
use Rattle.frame_runs.specs.Passing.{Passed, PassesPictures}
use Rattle.frame_runs.specs.Seen.{PicturesSee, SeesPictures}
use Rattle.frame_requests.specs.declared.fault.RunFault.TheVariants.{Input}
use Rattle.frame_runs.proofs.Failing.{next_failed, picture_failed}
use Rattle.frame_runs.proofs.HandedOn.{handed_on}
use Rattle.frame_runs.proofs.Heads.{other_letter, last_letter}
use Rattle.frame_runs.proofs.OneMore.{passed_on}
use Rattle.frame_runs.proofs.Rounds.{picture_passed, picture_last, picture_stopped, next_letter_last, none_last, next_head, memory_count, nothing_said}
use Rattle.frame_runs.proofs.Seeing.{letter_seen, none_seen, other_next, picture_seen, pictures_stopped}
use Rattle.frame_runs.proofs.pictures.pass_pictures.Goals as goal

pub returns-in_err-pass_picture-clause-passes : goal.returns-in_err-pass_picture-clause-passes
returns-in_err-pass_picture-clause-passes g c =
    handed_on (λ r. PassesPictures r c.args.request.limit (edits_of c.args.request) (behind_letter (g.R.Read.remaining (device_of c.args.reader.now))) (g.R.Read.remaining (device_of c.pass_picture.new.reader)) (g.W.Write.contents (device_of c.args.writer.now)) (g.W.Write.contents (device_of c.pass_picture.new.writer)))
    c.from_residual.result c.in_err-pass_picture.field-0.0 c.from_residual.ensures
    (picture_stopped c.args.request.limit (edits_of c.args.request) c.loop-number.number _ _ _ _ _ _ (omega arith) c.loop-number.invariant.passed.passed c.in_err-pass_picture.field-0.0 c.in_err-pass_picture.ensures.passes)

-- another letter
pub returns-in-Some-clause-passes : goal.returns-in-Some-clause-passes
returns-in-Some-clause-passes g c =
    let left = g.R.Read.remaining (device_of c.pass_picture.new.reader) in
    record {
      left = left;
      passed = picture_passed c.args.request.limit (edits_of c.args.request) c.loop-number.number _ _ _ _ _ _ (omega arith) c.loop-number.invariant.passed.passed c.in_ok-pass_picture.field-0.picture c.in_ok-pass_picture.ensures.passes;
      ends = other_letter c.heads_end_themselves.ensures.begins (edits_of c.args.request) (c.loop-number.number + 1) c.in-Some.field-0 (omega arith) c.in-Some.field-0-test.1 left (g.R.Read.remaining (device_of c.read_byte.new.reader)) (rw c.in-Some.is at c.in_ok-read_byte.ensures.byte);
    }

pub returns-in-None-clause-passes : goal.returns-in-None-clause-passes
returns-in-None-clause-passes g c =
    let end = rw c.in-None.is at c.in_ok-read_byte.ensures.end in (
      passed_on (PictureWithin c.args.request.limit (edits_of c.args.request)) (c.loop-number.number + 1) _ _ _ _ _ (picture_passed c.args.request.limit (edits_of c.args.request) c.loop-number.number _ _ _ _ _ _ (omega arith) c.loop-number.invariant.passed.passed c.in_ok-pass_picture.field-0.picture c.in_ok-pass_picture.ensures.passes) end.0,
      end.1,
    )

pub returns-in_err-read_byte-clause-passes : goal.returns-in_err-read_byte-clause-passes
returns-in_err-read_byte-clause-passes g c =
    let left = g.R.Read.remaining (device_of c.pass_picture.new.reader) in
    handed_on (λ r. PassesPictures r c.args.request.limit (edits_of c.args.request) (behind_letter (g.R.Read.remaining (device_of c.args.reader.now))) (g.R.Read.remaining (device_of c.read_byte.new.reader)) (g.W.Write.contents (device_of c.args.writer.now)) (g.W.Write.contents (device_of c.pass_picture.new.writer)))
    c.from_residual-in_err-read_byte.result Input c.from_residual-in_err-read_byte.ensures
    (record {
      count = c.loop-number.number + 1;
      up_to = record {
        left = left;
        passed = picture_passed c.args.request.limit (edits_of c.args.request) c.loop-number.number _ _ _ _ _ _ (omega arith) c.loop-number.invariant.passed.passed c.in_ok-pass_picture.field-0.picture c.in_ok-pass_picture.ensures.passes;
        ends = nothing_said (c.loop-number.number + 1) left;
      };
    })

-- where the reader failed, what it gave is an input of its own
pub returns-in_err-pass_picture-clause-fails : goal.returns-in_err-pass_picture-clause-fails
returns-in_err-pass_picture-clause-fails g c =
    handed_on (λ r. PicturesFail r c.args.request.limit (edits_of c.args.request) (behind_letter (g.R.Read.remaining (device_of c.args.reader.now))) (g.R.Read.remaining (device_of c.pass_picture.new.reader)) (g.W.Write.contents (device_of c.args.writer.now)) (g.W.Write.contents (device_of c.pass_picture.new.writer)))
    c.from_residual.result c.in_err-pass_picture.field-0.0 c.from_residual.ensures
    (picture_failed c.args.request.limit (edits_of c.args.request) c.loop-number.number _ _ _ _ _ _ (omega arith) c.loop-number.invariant.passed.passed c.in_err-pass_picture.field-0.0 c.in_err-pass_picture.ensures.passes)

pub returns-in_err-read_byte-clause-fails : goal.returns-in_err-read_byte-clause-fails
returns-in_err-read_byte-clause-fails g c =
    handed_on (λ r. PicturesFail r c.args.request.limit (edits_of c.args.request) (behind_letter (g.R.Read.remaining (device_of c.args.reader.now))) (g.R.Read.remaining (device_of c.read_byte.new.reader)) (g.W.Write.contents (device_of c.args.writer.now)) (g.W.Write.contents (device_of c.pass_picture.new.writer)))
    c.from_residual-in_err-read_byte.result Input c.from_residual-in_err-read_byte.ensures
    (next_failed c.heads_end_themselves.ensures.apart c.heads_end_themselves.ensures.begins c.args.request.limit (edits_of c.args.request) c.loop-number.number _ _ _ _ _
    (picture_passed c.args.request.limit (edits_of c.args.request) c.loop-number.number _ _ _ _ _ _ (omega arith) c.loop-number.invariant.passed.passed c.in_ok-pass_picture.field-0.picture c.in_ok-pass_picture.ensures.passes) c.in_err-read_byte.ensures.failed)

pub loop-number-init : goal.loop-number-init
loop-number-init g c = record {
  passed = none_last c.args.request.limit (edits_of c.args.request) (behind_letter (g.R.Read.remaining (device_of c.args.reader.now))) (g.W.Write.contents (device_of c.args.writer.now));
  kept = tt;
  read = refl;
  written = refl;
  seen = λ sees. none_seen (edits_of c.args.request) (behind_letter (g.R.Read.remaining (device_of c.args.reader.now))) c.args.seen.now sees (omega (arith, sees.last));
}

-- out of memory at the head of another picture
pub returns-in_err-pass_picture-clause-stops : goal.returns-in_err-pass_picture-clause-stops
returns-in_err-pass_picture-clause-stops g c =
    handed_on (λ r. PicturesStop r (edits_of c.args.request) (behind_letter (g.R.Read.remaining (device_of c.args.reader.now))) (g.R.Read.remaining (device_of c.pass_picture.new.reader)))
    c.from_residual.result c.in_err-pass_picture.field-0.0 c.from_residual.ensures
    (next_head c.args.request.limit (edits_of c.args.request) _ c.loop-number.number _ _ _ _ _ c.loop-number.invariant.passed c.in_err-pass_picture.field-0.0 (memory_count c.args.request.limit (edits_of c.args.request) c.loop-number.number _ _ _ _ c.in_err-pass_picture.field-0.0 c.in_err-pass_picture.ensures.passes) c.in_err-pass_picture.ensures.stops)

pub loop-number-preserved : goal.loop-number-preserved
loop-number-preserved g c = record {
  passed = next_letter_last c.args.request.limit (edits_of c.args.request) _ (c.loop-number.number + 1) _ _ _ _ _ (picture_last c.args.request.limit (edits_of c.args.request) c.loop-number.number _ _ _ _ _ _ (omega arith) c.loop-number.invariant.passed.passed c.in_ok-pass_picture.field-0.picture c.in_ok-pass_picture.ensures.passes)
      (subst (λ b. Consumes (g.R.Read.remaining (device_of c.pass_picture.new.reader)) (g.R.Read.remaining (device_of c.read_byte.new.reader)) (b ∷ [])) c.in-Some-eq80.field-0-test (rw c.in-Some-eq80.is at c.in_ok-read_byte.ensures.byte));
  kept = c.in_ok-pass_picture.ensures.kept;
  read = grind (arith, common_steps);
  written = grind (arith, common_steps);
  seen = λ sees. letter_seen (edits_of c.args.request) (c.loop-number.number + 1) _ _ _ _ (picture_seen c.args.request.limit (edits_of c.args.request) c.loop-number.number _ _ _ _ _ (c.loop-number.invariant.seen sees) _ _ c.in_ok-pass_picture.field-0.picture c.in_ok-pass_picture.ensures.passes c.in_ok-pass_picture.ensures.seen)
      (subst (λ b. Consumes (g.R.Read.remaining (device_of c.pass_picture.new.reader)) (g.R.Read.remaining (device_of c.read_byte.new.reader)) (b ∷ [])) c.in-Some-eq80.field-0-test (rw c.in-Some-eq80.is at c.in_ok-read_byte.ensures.byte));
}

-- as many pictures as a number counts, and the letter of one more
pub returns-clause-passes : goal.returns-clause-passes
returns-clause-passes g c =
    let left = behind_letter (g.R.Read.remaining (device_of c.loop-number.reader)) in
    let heads = PictureWithin c.args.request.limit (edits_of c.args.request) in
    record {
      left = left;
      passed = subst (λ n. Passed heads n (behind_letter (g.R.Read.remaining (device_of c.args.reader.now))) left (g.W.Write.contents (device_of c.args.writer.now)) (g.W.Write.contents (device_of c.loop-number.writer))) (omega arith) c.loop-number.invariant.passed.passed;
      ends = last_letter (edits_of c.args.request) (g.R.Read.remaining (device_of c.loop-number.reader));
    }

-- ---- which shapes were seen

pub returns-in_err-pass_picture-clause-seen : goal.returns-in_err-pass_picture-clause-seen
returns-in_err-pass_picture-clause-seen g c sees =
    handed_on (λ r. PicturesSee r (edits_of c.args.request) (behind_letter (g.R.Read.remaining (device_of c.args.reader.now))) c.pass_picture.new.seen)
    c.from_residual.result c.in_err-pass_picture.field-0.0 c.from_residual.ensures
    (pictures_stopped c.args.request.limit (edits_of c.args.request) c.loop-number.number _ _ _ _ _ (c.loop-number.invariant.seen sees) (omega arith) _ _ c.in_err-pass_picture.field-0.0 c.in_err-pass_picture.ensures.passes c.in_err-pass_picture.ensures.seen)

pub returns-in-Some-clause-seen : goal.returns-in-Some-clause-seen
returns-in-Some-clause-seen g c sees =
    inl (other_next c.heads_end_themselves.ensures.begins (edits_of c.args.request) (c.loop-number.number + 1) c.in-Some.field-0 c.in-Some.field-0-test.1 _ (g.R.Read.remaining (device_of c.pass_picture.new.reader)) (g.R.Read.remaining (device_of c.read_byte.new.reader)) c.pass_picture.new.seen
    (picture_seen c.args.request.limit (edits_of c.args.request) c.loop-number.number _ _ _ _ _ (c.loop-number.invariant.seen sees) _ _ c.in_ok-pass_picture.field-0.picture c.in_ok-pass_picture.ensures.passes c.in_ok-pass_picture.ensures.seen) (omega arith) (rw c.in-Some.is at c.in_ok-read_byte.ensures.byte))

pub returns-in-None-clause-seen : goal.returns-in-None-clause-seen
returns-in-None-clause-seen g c sees = (_, picture_seen c.args.request.limit (edits_of c.args.request) c.loop-number.number _ _ _ _ _ (c.loop-number.invariant.seen sees) _ _ c.in_ok-pass_picture.field-0.picture c.in_ok-pass_picture.ensures.passes c.in_ok-pass_picture.ensures.seen, omega arith)

pub returns-in_err-read_byte-clause-seen : goal.returns-in_err-read_byte-clause-seen
returns-in_err-read_byte-clause-seen g c sees =
    handed_on (λ r. PicturesSee r (edits_of c.args.request) (behind_letter (g.R.Read.remaining (device_of c.args.reader.now))) c.pass_picture.new.seen)
    c.from_residual-in_err-read_byte.result Input c.from_residual-in_err-read_byte.ensures
    (c.loop-number.number + 1, inl (_, picture_seen c.args.request.limit (edits_of c.args.request) c.loop-number.number _ _ _ _ _ (c.loop-number.invariant.seen sees) _ _ c.in_ok-pass_picture.field-0.picture c.in_ok-pass_picture.ensures.passes c.in_ok-pass_picture.ensures.seen))

pub returns-clause-seen : goal.returns-clause-seen
returns-clause-seen g c sees = inl (record {
  left = behind_letter (g.R.Read.remaining (device_of c.loop-number.reader));
  see = subst (λ n. SeesPictures (edits_of c.args.request) n (behind_letter (g.R.Read.remaining (device_of c.args.reader.now))) (behind_letter (g.R.Read.remaining (device_of c.loop-number.reader))) c.loop-number.seen) (omega arith) (c.loop-number.invariant.seen sees);
  some = omega arith;
  none = inl refl;
})
