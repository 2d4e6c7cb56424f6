-- What a run ends as.
use Rattle.std.specs.Prelude.{◌≡◌, ℕ, ◌&&◌, Bool, true, false, not, nat_lt, if◌then◌else◌, List, [], Option, Some, None, Result, Ok, Err}
use Rattle.std.specs.Option.{is_some, option_map}
use Rattle.frame_edits.specs.declared.words.Edit.{Edit}
use Rattle.frame_texts.specs.Counts.{agrees, says_none_else}
use Rattle.frame_messages.specs.Bare.{bare_count, bare_text, is_bare}
use Rattle.frame_requests.specs.Fault.{status_of}
use Rattle.frame_messages.specs.Lines.{text_or_none}
use Rattle.frame_messages.specs.declared.ending.Found.{Found}
use Rattle.frame_messages.specs.declared.report.Bare.{Bare}
use Rattle.frame_requests.specs.declared.fault.RunFault.{RunFault}
use Rattle.frame_requests.specs.declared.fault.RunFault.TheVariants.{Output}
use Rattle.frame_messages.specs.declared.places.Texts.{Texts}

-- with --strict an edit that covers and comes too late ends a run before it begins
abbrev pub order_status : Bool → Bool → Option ℕ
order_status strict late = if strict && late then Some 10 else None

abbrev pub nothing_found : Found
nothing_found = record { other_count = false; bare = None; uncovered = false; unreached = false }

-- the status of the first that is a fault: another number of frames, with --require-box a frame without a box, and with --strict a cover that covers nothing or a range that isn't reached
abbrev pub status_found : Bool → Bool → Found → ℕ
status_found strict boxes f =
    if f.other_count then 11
    else if is_some f.bare && boxes then 12
    else if f.uncovered && strict then 9
    else if f.unreached && strict then 8
    else 0

-- the status after a run: that of its fault; else of the output, where what was made isn't on its disk; else that of what was found
abbrev pub status_after : Bool → Bool → Result ℕ RunFault → Bool → Found → ℕ
status_after strict boxes (Err fault) kept f = status_of fault
status_after strict boxes (Ok count) false f = status_of Output
status_after strict boxes (Ok count) true f = status_found strict boxes f

-- ---- what is found of so many frames

-- another number of frames was asked for: by an option, or by a line of a list
abbrev pub is_other : ℕ → Option ℕ → Texts → Bool
is_other count asked t = not (agrees count asked && (says_none_else count (text_or_none (option_map (λ text. text.now) t.boxes)) && says_none_else count (text_or_none (option_map (λ text. text.now) t.edits))))

-- there is a list of boxes, and a frame has none of it
abbrev pub is_any_bare : Texts → List Edit → ℕ → Bool
is_any_bare t steps count = is_some t.boxes && nat_lt 0 (bare_count (is_bare steps) count)

-- ---- what is printed of it

-- nothing was found but frames without a box
pub record IsQuiet (f : Found) : Type 0 where
  pub counts : f.other_count ≡ false
  pub covered : f.uncovered ≡ false
  pub reached : f.unreached ≡ false

abbrev pub bare_or_none : Bool → ℕ → Option Bare → List ℕ
bare_or_none boxes count None = []
bare_or_none boxes count (Some bare) = bare_text boxes count bare

-- the text of frames without a box, where the run read all frames and some have none
abbrev pub quiet_text : Bool → Result ℕ RunFault → Found → List ℕ
quiet_text boxes (Err fault) f = []
quiet_text boxes (Ok count) f = bare_or_none boxes count f.bare
