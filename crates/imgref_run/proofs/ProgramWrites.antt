-- What a run wrote, from what its parts did.
use Rattle.std.proofs.Common.{◌≡◌, ℕ, List, ◌++◌, Option, Some, None, Result, Ok, Err, sym, ap, subst, ◌∙◌, IfSome, OnOk, OnErr, IfErr}
use Rattle.std.specs.Io.KnownBytes.{Consumes, IsAtEnd, Appends}
use Rattle.std.proofs.lemmas.List.{append-nil}
use Rattle.imgref_run.specs.declared.fault.RunFault.{RunFault}
use Rattle.imgref_run.specs.declared.fault.RunFault.TheVariants.{Output}
use Rattle.devices.specs.Whole.{AppendsBeginning}
use Rattle.imgref_run.specs.Program.{Writes, IsOutputOf}

-- a reader at its end gave all that it had
known_whole : (input left : Option (List ℕ)) (bytes : List ℕ) (P : List ℕ → Type 0) → Consumes input left bytes → IsAtEnd left → P bytes → IfSome input P
known_whole None left bytes P gave end h = tt
known_whole (Some xs) None bytes P gave end h = absurd gave
known_whole (Some xs) (Some ys) bytes P gave end h = subst P (sym (gave ∙ ap (λ (l : List ℕ). bytes ++ l) end ∙ append-nil bytes)) h

pub wrote : (r : Result (Unit {0}) RunFault) (input left old new : Option (List ℕ)) (bytes text : List ℕ)
    → Consumes input left bytes → IsAtEnd left → IsOutputOf bytes text
    → OnOk r (Appends old new text) → OnErr r (AppendsBeginning old new text) → IfErr r (λ e. e ≡ Output) → Writes r input old new
wrote (Ok x) input left old new bytes text gave end output ok err fault =
    known_whole input left bytes (λ bs. (t : List ℕ) × IsOutputOf bs t × Appends old new t) gave end (text, output, ok)
wrote (Err Output) input left old new bytes text gave end output ok err fault =
    known_whole input left bytes (λ bs. (t : List ℕ) × IsOutputOf bs t × AppendsBeginning old new t) gave end (text, output, err)
wrote _ input left old new bytes text gave end output ok err fault = absurd cc
