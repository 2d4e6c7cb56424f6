-- What was read and written where the reader fails.
use Rattle.std.specs.Prelude.{◌≡◌, ◌≢◌, ℕ, false, List, [], Option, Some, IfSome, Result, Err}
use Rattle.std.specs.Io.KnownBytes.{Consumes}
use Rattle.devices.specs.Whole.{Gave}
use Rattle.frame_edits.specs.Edits.{Edits}
use Rattle.frame_formats.specs.Recipe.{Recipe}
use Rattle.frame_runs.specs.Alike.{is_broken_off}
use Rattle.frame_runs.specs.Passing.{PassesFrames, PassesPictures}
use Rattle.frame_runs.specs.Program.{Writes}
use Rattle.frame_requests.specs.declared.fault.RunFault.{RunFault}
use Rattle.frame_requests.specs.declared.fault.RunFault.TheVariants.{Input}

-- this holds of the answer of a run that neither a device nor memory ended
abbrev pub EndsAlone : (Result ℕ RunFault → Type 0) → Type 0
EndsAlone holds = (answer : Result ℕ RunFault) × (is_broken_off answer ≡ false) × holds answer

-- where the reader failed, what was written is what a run over an input of exactly the bytes that were read has written
abbrev pub InputFails : Result ℕ RunFault → Edits → Option (List ℕ) → Option (List ℕ) → Option (List ℕ) → Option (List ℕ) → Type 0
InputFails (Err Input) edit input left old new = IfSome input (λ _. Gave (λ bytes. EndsAlone (λ answer. Writes answer edit (Some bytes) old new)) input left)
InputFails _ edit input left old new = Unit {0}

-- the same after the front of the input, for each input with that front
abbrev pub InputFailsAfter : Result ℕ RunFault → Edits → List ℕ → Option (List ℕ) → Option (List ℕ) → Option (List ℕ) → Option (List ℕ) → Type 0
InputFailsAfter result edit front left end old new = (input : Option (List ℕ)) → Consumes input left front → InputFails result edit input end old new

-- the same of the frames of a video, and of pictures
abbrev pub FramesFail : Result ℕ RunFault → Recipe → Option (List ℕ) → Option (List ℕ) → Option (List ℕ) → Option (List ℕ) → Type 0
FramesFail (Err Input) video input left old new = Gave (λ bytes. EndsAlone (λ answer. PassesFrames answer video (Some bytes) (Some []) old new)) input left
FramesFail _ video input left old new = Unit {0}

abbrev pub PicturesFail : Result ℕ RunFault → ℕ → Edits → Option (List ℕ) → Option (List ℕ) → Option (List ℕ) → Option (List ℕ) → Type 0
PicturesFail (Err Input) limit edit input left old new = Gave (λ bytes. (bytes ≢ []) × EndsAlone (λ answer. PassesPictures answer limit edit (Some bytes) (Some []) old new)) input left
PicturesFail _ limit edit input left old new = Unit {0}
