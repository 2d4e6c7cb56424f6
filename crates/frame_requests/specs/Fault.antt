-- Why a run ended, and what is printed then.
use Rattle.std.specs.Prelude.{ℕ, List, ◌∷◌, ◌++◌, codes}
use Rattle.std.specs.Fmt.{decimal}
use Rattle.devices.specs.Fault.{memory_text, input_text, output_text}
use Rattle.frame_requests.specs.declared.fault.RunFault.{RunFault}
use Rattle.frame_requests.specs.declared.fault.RunFault.TheVariants.{Header, Outside, Frame, Memory, Input, Output}

-- the status that the program ends with, each fault's own, and what it prints
abbrev pub ends_with : RunFault → ℕ × List ℕ
ends_with Header = (2, codes "fault header")
ends_with (Memory n) = (3, memory_text ++ 32 ∷ decimal n)
ends_with Input = (4, input_text)
ends_with Output = (5, output_text)
ends_with Outside = (6, codes "fault outside")
ends_with (Frame n) = (7, codes "fault frame " ++ decimal n)

abbrev pub status_of : RunFault → ℕ
status_of fault = (ends_with fault).0

abbrev pub fault_text : RunFault → List ℕ
fault_text fault = (ends_with fault).1
