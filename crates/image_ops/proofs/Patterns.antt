-- A row that gets a pattern again and again, from left to right.
use Rattle.std.proofs.Common.{◌≡◌, ℕ, ◌+◌, ◌-◌, ◌%◌, ◌<◌, ◌≤◌, List, length, set, Some, get_or, refl, sym, ap, ◌∙◌, arith}
use Rattle.std.specs.List.{slice_get}
use Rattle.std.proofs.lemmas.List.{length-set}
use Rattle.std.proofs.lemmas.Option.{slice_get-get_or}
use Rattle.std.proofs.Math.Nat.{mod-eq_of_lt}
use Rattle.image_model.specs.Grid.{uniform}
use Rattle.image_model.proofs.Grids.{same_grids}
use Rattle.image_ops.specs.Repeated.{repeated, IsRepeated}
use Rattle.image_writes.proofs.CellByCell.{one_set}
use Rattle.image_writes.proofs.Parts.{place_before}

-- the cells before number x have the pattern
pub record RepeatedUpto {T : Type 0} (pattern old now : List T) (x : ℕ) : Type 0 where
  pub as_many : length now ≡ length old
  pub each : (k : ℕ) → k < x → slice_get now k ≡ slice_get pattern (k % length pattern)

module _ {T : Type 0} (pattern old : List T) (some : 0 < length pattern) where
  pub no_cell : RepeatedUpto pattern old old 0
  no_cell = record { as_many = refl; each = λ k below. absurd (omega (arith, below)) }

  pub all_cells : (now : List T) (x : ℕ) → x ≡ length old → RepeatedUpto pattern old now x → IsRepeated pattern old now
  all_cells now x all so = record { as_many = so.as_many; each = λ k below. so.each k (omega (arith, below, all)) }

  module _ (now : List T) (x : ℕ) (value : T) (so : RepeatedUpto pattern old now x) (here : x < length old) where
    -- one cell more
    more : Some value ≡ slice_get pattern (x % length pattern) → RepeatedUpto pattern old (set now x value) (x + 1)
    more is = record {
      as_many = length-set now x value ∙ so.as_many;
      each = one_set (λ k p. p ≡ slice_get pattern (k % length pattern)) now x value (omega (arith, here, so.as_many)) so.each is;
    }

    -- of the pattern itself
    pub first_more : x < length pattern → value ≡ get_or pattern x value → RepeatedUpto pattern old (set now x value) (x + 1)
    first_more within is = more (ap Some is ∙ sym (slice_get-get_or pattern x value within) ∙ ap (slice_get pattern) (sym (mod-eq_of_lt within)))

    -- of the cell a pattern before
    pub next_more : length pattern ≤ x → value ≡ get_or now (x - length pattern) value → RepeatedUpto pattern old (set now x value) (x + 1)
    next_more far is =
        more
        (ap Some is
        ∙ sym (slice_get-get_or now (x - length pattern) value (omega (arith, here, so.as_many)))
        ∙ so.each (x - length pattern) (omega (arith, some, far))
        ∙ ap (slice_get pattern) (place_before (length pattern) x some far))

-- a pattern of one cell
pub one_value : {T : Type 0} (width height : ℕ) (pattern : List T) (value : T) → length pattern ≡ 1 → value ≡ get_or pattern 0 value → uniform width height value ≡ repeated width height pattern
unfolding uniform repeated
one_value width height pattern value one is =
    same_grids width height (λ _ _. Some value) (λ x _. slice_get pattern (x % length pattern)) (λ x y column line.
    ap Some is ∙ sym (slice_get-get_or pattern 0 value (omega (arith, one))) ∙ ap (slice_get pattern) (let e : 0 ≡ x % 1 = omega arith in e ∙ ap (λ n. x % n) (sym one)))
