-- How many bytes the buffers of a run have.
use Rattle.std.specs.Prelude.{ℕ, ◌≤◌, ◌⊎◌, List, Option, IfSome, Result, Ok, Err}
use Rattle.std.specs.List.{AllByRecursion}
use Rattle.std.specs.Io.KnownBytes.{Consumes, Keeps}
use Rattle.devices.specs.Whole.{AppendsBeginning}
use Rattle.frame_edits.specs.Edits.{Edits}
use Rattle.frame_formats.specs.Recipe.{buffers_len}
use Rattle.frame_requests.specs.declared.fault.RunFault.{RunFault}
use Rattle.frame_requests.specs.declared.fault.RunFault.TheVariants.{Frame, Output}
use Rattle.frame_runs.specs.Program.{Stream, Carries}
use Rattle.frame_runs.specs.Program.Stream.{video, pictures}
use Rattle.frame_runs.specs.Stream.{Piece}

-- the buffers that the edits need have at most so many bytes: those for the video, or for each of the pictures
abbrev pub AreWithin : ℕ → Stream → List Piece → Type 0
AreWithin limit (video line recipe) pieces = buffers_len recipe ≤ limit
AreWithin limit pictures pieces = AllByRecursion (λ p. buffers_len p.recipe ≤ limit) pieces

-- this is so of so many frames or pictures of the input, and what they become was written, or a beginning of it
pub record WritesWithin (limit : ℕ) (edit : Edits) (count : ℕ) (input : List ℕ) (old new : Option (List ℕ)) : Type 0 where
  pub rest : List ℕ
  pub text : List ℕ
  pub carries : Carries edit count input rest text
  pub within : AreWithin limit carries.stream carries.pieces
  pub written : AppendsBeginning old new text

-- whatever a run with this answer wrote is of such frames or pictures
abbrev pub KeepsLimit : Result ℕ RunFault → ℕ → Edits → Option (List ℕ) → Option (List ℕ) → Option (List ℕ) → Type 0
KeepsLimit (Ok n) limit edit input old new = IfSome input (λ bytes. WritesWithin limit edit n bytes old new)
KeepsLimit (Err (Frame n)) limit edit input old new = IfSome input (λ bytes. WritesWithin limit edit n bytes old new)
KeepsLimit (Err Output) limit edit input old new = IfSome input (λ bytes. (n : ℕ) × WritesWithin limit edit n bytes old new)
KeepsLimit _ limit edit input old new = Keeps old new ⊎ IfSome input (λ bytes. (n : ℕ) × WritesWithin limit edit n bytes old new)

-- the same after the front of the input, for each input with that front
abbrev pub KeepsLimitAfter : Result ℕ RunFault → ℕ → Edits → List ℕ → Option (List ℕ) → Option (List ℕ) → Option (List ℕ) → Type 0
KeepsLimitAfter result limit edit front left old new = (input : Option (List ℕ)) → Consumes input left front → KeepsLimit result limit edit input old new
