-- What a writer that failed took, what a reader that failed gave, and why no line was read.
use Rattle.std.specs.Prelude.{◌≡◌, ◌≢◌, ℕ, ◌<◌, ◌≤◌, List, ◌∷◌, ◌++◌, All, take, length, Option, IfSome, Result, Ok, Err}
use Rattle.std.specs.Io.KnownBytes.{Appends, Consumes}
use Rattle.devices.specs.declared.whole.LineFault.{LineFault}
use Rattle.devices.specs.declared.whole.LineFault.TheVariants.{NoLine, Reader}

-- a beginning of the bytes was written
abbrev pub AppendsBeginning : Option (List ℕ) → Option (List ℕ) → List ℕ → Type 0
AppendsBeginning old new bytes = (sent : ℕ) × (sent ≤ length bytes) × Appends old new (take sent bytes)

-- bytes were read of which this holds, and no others
pub record Gave (holds : List ℕ → Type 0) (old new : Option (List ℕ)) : Type 0 where
  pub bytes : List ℕ
  pub read : Consumes old new bytes
  pub are : holds bytes

-- they are fewer than so many
abbrev pub GaveFewer : ℕ → Option (List ℕ) → Option (List ℕ) → Type 0
GaveFewer size old new = Gave (λ bytes. length bytes < size) old new

-- and none of them is a line feed
abbrev pub GaveNoFeed : ℕ → Option (List ℕ) → Option (List ℕ) → Type 0
GaveNoFeed size old new = Gave (λ bytes. (length bytes < size) × All (λ b. b ≢ 10) bytes) old new

-- there is no line of fewer than so many bytes at the front
abbrev pub IsNoLine : ℕ → List ℕ → Type 0
IsNoLine count bytes = (line more : List ℕ) → length line < count → bytes ≡ line ++ 10 ∷ more → ⊥

-- there is no line in so many bytes, or the reader failed before there was one
abbrev pub Explains : ℕ → Option (List ℕ) → Option (List ℕ) → LineFault → Type 0
Explains count input left NoLine = IfSome input (IsNoLine count)
Explains count input left Reader = GaveNoFeed count input left

-- how many calls of the reader have failed then
abbrev pub line_failures : {T : Type 0} → Result T LineFault → ℕ
line_failures (Ok x) = 0
line_failures (Err NoLine) = 0
line_failures (Err Reader) = 1
