-- Cells that are taken from other cells one after the other, and blocks that are written over some cells.
use Rattle.std.proofs.Common.{◌≡◌, ℕ, ◌+◌, ◌<◌, List, ◌++◌, length, set, take, drop, sym, ap, ◌∙◌, arith, length-set, drop-drop, Some}
use Rattle.std.specs.List.{slice_get}
use Rattle.image_model.specs.Windows.{with_stretch}
use Rattle.image_writes.proofs.CellByCell.{one_set}

-- the first n cells are taken from the source
pub record GatheredTo {T : Type 0} (from : ℕ → ℕ) (source old new : List T) (n : ℕ) : Type 0 where
  pub as_many : length new ≡ length old
  pub each : (k : ℕ) → k < n → slice_get new k ≡ slice_get source (from k)

-- one cell more
pub gathered_more : {T : Type 0} (from : ℕ → ℕ) (source old new : List T) (n : ℕ) (value : T) → GatheredTo from source old new n → n < length old
    → slice_get source (from n) ≡ Some value → GatheredTo from source old (set new n value) (n + 1)
gathered_more from source old new n value so within there = record {
  as_many = length-set new n value ∙ so.as_many;
  each = one_set (λ k p. p ≡ slice_get source (from k)) new n value (omega (arith, within, so.as_many)) so.each (sym there);
}

-- a block that was written over some cells
pub written : {T : Type 0} (old block : List T) (start many n : ℕ) → many ≡ n → take start old ++ (block ++ drop many (drop start old)) ≡ with_stretch old (record { start = start; len = n }) block
written old block start many n is_many =
    ap (λ rest. take start old ++ (block ++ rest)) (ap (λ m. drop m (drop start old)) is_many ∙ drop-drop n start old)
