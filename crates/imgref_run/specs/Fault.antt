-- Why a run ended, what it prints then, and which device's count shows it.
use Rattle.std.specs.Prelude.{ℕ, List, ◌++◌, codes, Result, Err}
use Rattle.std.specs.Fmt.{decimal}
use Rattle.devices.specs.Fault.{memory_text, input_text, output_text}
use Rattle.imgref_run.specs.declared.fault.RunFault.{RunFault}
use Rattle.imgref_run.specs.declared.fault.RunFault.TheVariants.{Line, Memory, Input, Output}
use Rattle.script_text.specs.Script.{IsFirstBad}
use Rattle.script_text.specs.declared.fault.ScriptFault.{ScriptFault}
use Rattle.script_text.specs.declared.fault.ScriptFault.TheVariants.{Line as BadLine, Memory as NoMemory}

-- the status that the program ends with, and what it prints
abbrev pub ends_with : RunFault → ℕ × List ℕ
ends_with (Line n) = (2, codes "fault line " ++ decimal n)
ends_with Memory = (3, memory_text)
ends_with Input = (4, input_text)
ends_with Output = (4, output_text)

abbrev pub status_of : RunFault → ℕ
status_of fault = (ends_with fault).0

abbrev pub fault_text : RunFault → List ℕ
fault_text fault = (ends_with fault).1

-- why a run ended whose script could not be read
abbrev pub of_script : ScriptFault → RunFault
of_script (BadLine n) = Line n
of_script NoMemory = Memory

-- by how much a run with this answer raised the reader's count
abbrev pub reader_failures : {T : Type 0} → Result T RunFault → ℕ
reader_failures (Err Input) = 1
reader_failures _ = 0

-- by how much a run with this result raised the writer's count
abbrev pub writer_failures : {T : Type 0} → Result T RunFault → ℕ
writer_failures (Err Output) = 1
writer_failures _ = 0

-- reading the input may end with this fault
abbrev pub IsReadFault : RunFault → Type 0
IsReadFault (Line n) = ⊥
IsReadFault Memory = Unit {0}
IsReadFault Input = Unit {0}
IsReadFault Output = ⊥

-- the fault is out of memory, or it names the first line that isn't good
abbrev pub ExplainsBad : List (List ℕ) → RunFault → Type 0
ExplainsBad lines (Line n) = IsFirstBad lines n
ExplainsBad lines Memory = Unit {0}
ExplainsBad lines Input = ⊥
ExplainsBad lines Output = ⊥
