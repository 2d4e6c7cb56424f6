-- Which device counts a fault.
use Rattle.std.specs.Prelude.{◌≡◌, ◌<◌, ◌+◌, ℕ, Result, Ok, Err}
use Rattle.frame_requests.specs.declared.fault.RunFault.{RunFault}
use Rattle.frame_requests.specs.declared.fault.RunFault.TheVariants.{Input, Output}

-- by how much a fault raised the reader's count
abbrev pub reads_failed : RunFault → ℕ
reads_failed Input = 1
reads_failed _ = 0

-- by how much it raised the writer's count
abbrev pub writes_failed : RunFault → ℕ
writes_failed Output = 1
writes_failed _ = 0

-- the same of an answer
abbrev pub reader_failures : {T : Type 0} → Result T RunFault → ℕ
reader_failures (Ok x) = 0
reader_failures (Err e) = reads_failed e

abbrev pub writer_failures : {T : Type 0} → Result T RunFault → ℕ
writer_failures (Ok x) = 0
writer_failures (Err e) = writes_failed e

-- each of two devices can count one failure more
pub record CanCount (reads writes : ℕ) : Type 0 where
  pub reads_below : reads < 18446744073709551615
  pub writes_below : writes < 18446744073709551615

-- each count grew exactly where the answer is that device's fault
pub record Counts {T : Type 0} (answer : Result T RunFault) (reads new_reads writes new_writes : ℕ) : Type 0 where
  pub reader : new_reads ≡ reads + reader_failures answer
  pub writer : new_writes ≡ writes + writer_failures answer
