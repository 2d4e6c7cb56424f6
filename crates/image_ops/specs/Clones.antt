-- Clones that equal their originals, and clones that are appended.
use Rattle.std.specs.Prelude.{◌≡◌, ℕ, ◌+◌, ◌*◌, ◌/◌, ◌<◌, ◌≤◌, List, length}
use Rattle.std.specs.List.{All, AppendsClones}
use Rattle.std.specs.Vec.{vec_len, vec_capacity}
use Rattle.std.specs.declared.vec.Vec.{Vec}

-- each clone of a cell equals that cell
abbrev pub ClonesEqual : {T : Type 0} → (T → T → Type 0) → List T → Type 0
ClonesEqual {T} is_clone cells = All (λ x. (y : T) → is_clone x y → y ≡ x) cells

-- a buffer gets the clones of cells after its own, and keeps its room
pub record GetsClones {T Z : Type 0} (is_clone : T → T → Type 0) (old new : Vec T Z) (cells : List T) : Type 0 where
  pub room : vec_capacity old ≤ vec_capacity new
  pub len : vec_len new ≡ vec_len old + length cells
  pub clones : AppendsClones is_clone old.items new.items cells

-- cells go by blocks of which there is no rest: by 64, or by 16; or there are few of them; or they go in another way
pub record AreWhole (how cells : ℕ) : Type 0 where
  pub many : how ≡ 64 → cells ≡ 64 * (cells / 64)
  pub whole : how ≡ 16 → cells ≡ 16 * (cells / 16)
  pub few : how ≡ 4 → cells < 16
