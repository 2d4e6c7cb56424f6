-- A device with a count of its failures.
use Rattle.std.specs.Prelude.{ℕ, ◌==◌, ◌&&◌, nat_lt, if◌then◌else◌, List, length, Result, Ok, Err}
use Rattle.devices.specs.declared.counted.Counted.{Counted}
use Rattle.devices.specs.declared.retried.Retried.{Retried}

-- what a `Counted` holds
abbrev pub device_of : {D : Type 0} → Counted D → D
device_of c = c.device

-- how many of its calls failed
abbrev pub failures_of : {D : Type 0} → Counted D → ℕ
failures_of c = c.failures

-- an error is one failure
abbrev pub errors : {T E : Type 0} → Result T E → ℕ
errors (Ok x) = 0
errors (Err e) = 1

-- an error is one failure of a write, and so is to take no byte of a piece that isn't empty
abbrev pub misses : {E : Type 0} → Result ℕ E → List ℕ → ℕ
misses (Ok n) piece = if n == 0 && nat_lt 0 (length piece) then 1 else 0
misses (Err e) piece = 1

-- what a `Retried` holds
abbrev pub retried_device : {D : Type 0} → Retried D → D
retried_device r = r.device
