-- Cells that were read as they were to be, and written as they become.
use Rattle.std.proofs.Common.{◌≡◌, ℕ, ◌≤◌, List, ◌++◌, Option, length, take, length-take-le, subst}
use Rattle.std.specs.Io.KnownBytes.{Consumes}
use Rattle.frame_formats.specs.Recipe.{Recipe}
use Rattle.frame_runs.specs.Passing.{CellsPassed}

pub cells_passed : (sent : List ℕ → Type 0) (r : Recipe) (number n : ℕ) (cells edited : List ℕ) (old new : Option (List ℕ)) → n ≡ r.size → n ≤ length cells → Consumes old new (take n cells) → edited ≡ cells → sent (r.head ++ r.frame number (take r.size edited)) → CellsPassed sent r number old new
cells_passed sent r number n cells edited old new counted within read same wrote =
    let whole = subst (λ (k : ℕ). k ≤ length cells) counted within in
    record {
      cells = take r.size cells;
      sized = length-take-le r.size cells whole;
      read = subst (λ (k : ℕ). Consumes old new (take k cells)) counted read;
      written = subst (λ (l : List ℕ). sent (r.head ++ r.frame number (take r.size l))) same wrote;
    }
