-- The scan goes on a byte at a time.
use Rattle.std.proofs.Common.{◌+◌, arith, refl, sym, ap, ◌∙◌, subst}
use Rattle.std.proofs.lemmas.Grind.{common_steps}
use Rattle.devices.specs.Device.{device_of}
use Rattle.frame_texts.specs.Picture.{pushed, done_as}
use Rattle.frame_texts.specs.declared.picture.Scan.{Scan}
use Rattle.frame_runs.specs.Pictures.{HeadBegun, HeadIs}
use Rattle.frame_requests.specs.declared.fault.RunFault.TheVariants.{Input}
use Rattle.frame_runs.proofs.HandedOn.{handed_on}
use Rattle.frame_runs.proofs.Heads.{begun_letter, begun_more, head_bad, head_cut, head_long}
use Rattle.frame_runs.proofs.pictures.read_head.Goals as goal

pub loop-count-init : goal.loop-count-init
loop-count-init g c =
    let left = g.R.Read.remaining (device_of c.args.reader.now) in
    record {
      begun = subst (λ (s : Scan). HeadBegun 0 s left left) (sym (c.push-scan.ensures ∙ ap (λ (s : Scan). pushed s 80) c.new.ensures)) (begun_letter left);
      read = grind (arith, common_steps);
    }

pub returns-in-Bad-clause-head : goal.returns-in-Bad-clause-head
returns-in-Bad-clause-head g c = head_bad c.heads_end_themselves.ensures.bad_stays c.loop-count._count (g.R.Read.remaining (device_of c.args.reader.now)) (g.R.Read.remaining (device_of c.loop-count.reader)) (rw c.in-Bad.is at c.loop-count.invariant.begun)

pub loop-count-preserved : goal.loop-count-preserved
loop-count-preserved g c =
    let old = g.R.Read.remaining (device_of c.args.reader.now) in
    let mid = g.R.Read.remaining (device_of c.loop-count.reader) in
    let new = g.R.Read.remaining (device_of c.read_byte.new.reader) in
    record {
      begun = subst (λ (s : Scan). HeadBegun (c.loop-count._count + 1) s old new) (sym c.push-scan-in-loop-count.ensures) (begun_more c.heads_end_themselves.ensures.one_byte_more c.loop-count._count c.loop-count.scan c.in-Some.byte old mid new c.loop-count.invariant.begun (ap done_as c.in-More.is) (rw c.in-Some.is at c.in_ok-byte.ensures.byte));
      read = grind (arith, common_steps);
    }

-- no head ends within so many bytes
pub returns-clause-head : goal.returns-clause-head
returns-clause-head g c = head_long c.loop-count._count c.loop-count.scan (g.R.Read.remaining (device_of c.args.reader.now)) (g.R.Read.remaining (device_of c.loop-count.reader)) c.loop-count.invariant.begun (omega arith)

-- the reader failed within the head
pub returns-in_err-byte-clause-head : goal.returns-in_err-byte-clause-head
returns-in_err-byte-clause-head g c =
    let old = g.R.Read.remaining (device_of c.args.reader.now) in
    let new = g.R.Read.remaining (device_of c.read_byte.new.reader) in
    handed_on (λ r. HeadIs r old new) c.from_residual.result Input c.from_residual.ensures
    (refl, head_cut c.loop-count._count c.loop-count.scan old (g.R.Read.remaining (device_of c.loop-count.reader)) new c.loop-count.invariant.begun (ap done_as c.in-More.is) c.in_err-byte.ensures.failed)
