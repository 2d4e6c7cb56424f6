-- The input ends within the word, or something else is there.
use Rattle.std.proofs.Common.{take, arith, length-take-le, refl, subst}
use Rattle.std.proofs.lemmas.Grind.{common_steps}
use Rattle.devices.specs.Device.{device_of}
use Rattle.frame_runs.proofs.FrameLines.{cut_line}
use Rattle.devices.specs.Whole.{GaveFewer}
use Rattle.frame_runs.specs.Passing.{WordIs}
use Rattle.frame_requests.specs.declared.fault.RunFault.TheVariants.{Input}
use Rattle.frame_runs.proofs.HandedOn.{handed_on}
use Rattle.frame_runs.proofs.frames.read_word.Goals as goal

pub returns-then-count-word-clause-found : goal.returns-then-count-word-clause-found
returns-then-count-word-clause-found g c =
    let taken = length-take-le c.in_ok-count.count c.fill.new.buffer c.in_ok-count.ensures.within in
    cut_line (g.R.Read.remaining (device_of c.args.reader.now)) (g.R.Read.remaining (device_of c.fill.new.reader)) (take c.in_ok-count.count c.fill.new.buffer)
    (omega (arith, taken, c.if-count-eq0.false)) (omega (arith, taken)) c.in_ok-count.ensures.bytes (c.in_ok-count.ensures.end (omega arith))

-- the reader failed within the word
pub returns-in_err-count-clause-found : goal.returns-in_err-count-clause-found
returns-in_err-count-clause-found g c =
    let old = g.R.Read.remaining (device_of c.args.reader.now) in
    let new = g.R.Read.remaining (device_of c.fill.new.reader) in
    handed_on (λ r. WordIs r c.fill.new.buffer old new) c.from_residual.result Input c.from_residual.ensures (refl, subst (λ size. GaveFewer size old new) c.requires.room c.in_err-count.ensures.failed)

pub returns-else-eq-2-clause-found : goal.returns-else-eq-2-clause-found
returns-else-eq-2-clause-found g c = grind (arith, common_steps)
