-- The word is followed by a line feed, or by a space and the rest of a line.
use Rattle.std.proofs.Common.{◌≡◌, ℕ, List, Option, Result, IsErr, IsErrAnd, ◌++◌, ◌∷◌, [], length, take, sym, ap, ◌∙◌, subst, refl, arith, length-append, length-take-le}
use Rattle.std.specs.Io.KnownBytes.{Consumes}
use Rattle.std.proofs.KnownBytes.{Consumes-trans}
use Rattle.devices.specs.Device.{device_of}
use Rattle.frame_runs.specs.Passing.{LineCut, LineIs}
use Rattle.frame_runs.specs.declared.frames.Found.{Found}
use Rattle.frame_requests.specs.declared.fault.RunFault.{RunFault}
use Rattle.frame_requests.specs.declared.fault.RunFault.TheVariants.{Input}
use Rattle.frame_runs.proofs.FrameLines.{line_in, parameters_cut, word_cut}
use Rattle.frame_runs.proofs.HandedOn.{handed_on}
use Rattle.frame_runs.proofs.frames.read_frame_line.Goals as goal

pub returns-in-Ok-clause-found : goal.returns-in-Ok-clause-found
returns-in-Ok-clause-found g c =
    let word = c.read_word.new.word in
    let line = c.read_line.new.line in
    let len = c.in-Ok.len in
    let found = rw c.in-Open.is at c.in_ok-read_word.ensures.found in
    let taken = length-take-le len line (omega (arith, c.in-Ok.ensures.within)) in
    let r0 = g.R.Read.remaining (device_of c.args.reader.now) in
    let r2 = g.R.Read.remaining (device_of c.read_line.new.reader) in
    let read : Consumes r0 r2 (word ++ (take len line ++ 10 ∷ [])) = Consumes-trans r0 (g.R.Read.remaining (device_of c.read_word.new.reader)) r2 word (take len line ++ 10 ∷ []) found.1 c.in-Ok.ensures.bytes in
    record {
      parameters = 32 ∷ take len line;
      are = (refl, c.in-Ok.ensures.one_line, omega (arith, taken, c.in-Ok.ensures.within));
      within = omega (arith, length-append word line, c.in-Ok.ensures.within, ap length found.0);
      line_is = line_in word line len found.0 c.in-Ok.ensures.feed c.in-Ok.ensures.within;
      read = subst (Consumes r0 r2) (ap (λ l. l ++ (take len line ++ 10 ∷ [])) found.0 ∙ sym (line_in word line len found.0 c.in-Ok.ensures.feed c.in-Ok.ensures.within)) read;
    }

-- the reader failed within the line
pub returns-in-Err-Reader-clause-found : goal.returns-in-Err-Reader-clause-found
returns-in-Err-Reader-clause-found g c =
    let found = rw c.in-Open.is at c.in_ok-read_word.ensures.found in
    (refl, parameters_cut _ _ _ _ _ found.0 found.1 (rw c.in-Err-Reader.field-0-is at c.in-Err-Reader.ensures.fault))

line_failed : (r : Result Found RunFault) (e : RunFault) (line : List ℕ) (old new : Option (List ℕ)) → IsErr r × IsErrAnd r (λ f. f ≡ e) → e ≡ Input → LineCut old new → LineIs r line old new
line_failed r e line old new fault is cut = handed_on (λ q. LineIs q line old new) r e fault (is, cut)

pub returns-in_err-read_word-clause-found : goal.returns-in_err-read_word-clause-found
returns-in_err-read_word-clause-found g c = line_failed c.from_residual.result c.in_err-read_word.field-0.0 _ _ _ c.from_residual.ensures c.in_err-read_word.ensures.found.0 (word_cut _ _ c.in_err-read_word.ensures.found.1)
