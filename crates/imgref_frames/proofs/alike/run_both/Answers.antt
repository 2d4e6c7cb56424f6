-- By the laws of `run` and of `ending_of`, with what is known of the devices.
use Rattle.std.proofs.Common.{◌≡◌, ℕ, Bool, true, false, List, Option, Some, Result, Ok, Err, OnOk, refl, sym, ◌∙◌, subst, arith}
use Rattle.std.specs.Io.KnownBytes.{Appends}
use Rattle.frame_edits.specs.Edits.{Edits, edits}
use Rattle.frame_messages.specs.Ending.{IsQuiet, quiet_text, status_after}
use Rattle.frame_messages.specs.declared.ending.Ending.{Ending}
use Rattle.frame_messages.specs.declared.ending.Found.{Found}
use Rattle.frame_requests.specs.declared.fault.RunFault.{RunFault}
use Rattle.frame_requests.specs.declared.fault.RunFault.TheVariants.{Header, Outside, Frame, Memory, Input, Output}
use Rattle.frame_runs.specs.Alike.{is_broken_off}
use Rattle.frame_runs.specs.Program.{Writes}
use Rattle.frame_runs.specs.Seen.{RunSees}
use Rattle.imgref_frames.proofs.alike.run_both.Goals as goal

-- where the bytes are known
written : (r : Result ℕ RunFault) (edit : Edits) (input old new : Option (List ℕ)) (bytes held sent : List ℕ) → input ≡ Some bytes → old ≡ Some held → new ≡ Some sent → Writes r edit input old new → Writes r edit (Some bytes) (Some held) (Some sent)
written r edit input old new bytes held sent input_is old_is new_is w =
    subst (λ (i : Option (List ℕ)). Writes r edit i (Some held) (Some sent)) input_is (subst (λ (o : Option (List ℕ)). Writes r edit input o (Some sent)) old_is (subst (λ (n : Option (List ℕ)). Writes r edit input old n) new_is w))

pub returns-clause-outputs : goal.returns-clause-outputs
returns-clause-outputs g c mine theirs old new other first alike input other_input held other_held sent other_sent =
    let edit : Edits = edits c.args.noted.steps.now c.args.framing in
    c.run-outcome.ensures.one_covered edit mine theirs old new other c.run-outcome.result c.run-other.result first alike
    (written c.run-outcome.result edit _ _ _ mine old new input held sent c.run-outcome.ensures.written) (written c.run-other.result edit _ _ _ theirs old other other_input other_held other_sent c.run-other.ensures.written)

pub returns-clause-endings : goal.returns-clause-endings
returns-clause-endings g c mine theirs first order alike input other_input whole same =
    let edit : Edits = edits c.args.noted.steps.now c.args.framing in
    let sees = c.nothing-seen.ensures.sees c.args.noted.steps.now in
    let other_sees = c.nothing-other_seen.ensures.sees c.args.noted.steps.now in
    let one = c.run-outcome.ensures.one_seen_covered edit mine theirs c.run-outcome.result c.run-other.result c.run-outcome.new.seen c.run-other.new.seen first alike whole same
    (subst (λ (i : Option (List ℕ)). RunSees c.run-outcome.result edit i c.run-outcome.new.seen) input (c.run-outcome.ensures.seen sees)) (subst (λ (i : Option (List ℕ)). RunSees c.run-other.result edit i c.run-other.new.seen) other_input (c.run-other.ensures.seen other_sees)) in
    c.ending_of-ending.ensures.one_ending _ _ _ _ _ _ _ _ _ _ _ order one (c.run-outcome.ensures.last sees) c.ending_of-ending.ensures.ending (rw same c.ending_of-other_ending.ensures.ending)

-- with status 0 no device and no memory ended the run
not_broken_off : (strict boxes : Bool) (r : Result ℕ RunFault) (f : Found) → status_after strict boxes r true f ≡ 0 → is_broken_off r ≡ false
not_broken_off strict boxes (Ok n) f zero = refl
not_broken_off strict boxes (Err Header) f zero = refl
not_broken_off strict boxes (Err Outside) f zero = refl
not_broken_off strict boxes (Err (Frame n)) f zero = refl
not_broken_off strict boxes (Err (Memory n)) f zero = absurd (omega (arith, zero))
not_broken_off strict boxes (Err Input) f zero = absurd (omega (arith, zero))
not_broken_off strict boxes (Err Output) f zero = absurd (omega (arith, zero))

pub returns-clause-told : goal.returns-clause-told
returns-clause-told g c mine theirs first order alike input other_input strict zero same =
    let boxes : Bool = c.args.options.require_box in
    let found : Found = c.ending_of-ending.result.found in
    let whole : is_broken_off c.run-outcome.result ≡ false = not_broken_off c.args.options.strict boxes c.run-outcome.result found (sym c.ending_of-ending.ensures.status ∙ zero) in
    let one : c.ending_of-ending.result ≡ c.ending_of-other_ending.result = returns-clause-endings g c mine theirs first order alike input other_input whole same in
    let quiet : IsQuiet found = c.ending_of-ending.ensures.quiet strict zero in
    let text : quiet_text boxes c.run-other.result c.ending_of-other_ending.result.found ≡ quiet_text boxes c.run-outcome.result found = sym (λ i. quiet_text boxes (same i) (one i).found) in (
      quiet_text boxes c.run-outcome.result found,
      c.tell_found-told.ensures.quiet quiet,
      subst (λ t. OnOk c.tell_found-other_told.result (Appends (g.E.Write.contents c.args.other_errors.now) (g.E.Write.contents c.tell_found-other_told.new.writer) t)) text (c.tell_found-other_told.ensures.quiet (subst (λ (e : Ending). IsQuiet e.found) one quiet)),
    )
