-- The table of an equalization, value by value.
use Rattle.std.proofs.Common.{◌≡◌, ℕ, ◌+◌, ◌*◌, ◌/◌, ◌<◌, ◌≤◌, List, length, sum, take, set, get_or, max, sym, ap, ◌∙◌, arith, ⊎_elim}
use Rattle.std.proofs.lemmas.Bool.Decides.{eqb_tells}
use Rattle.std.proofs.lemmas.List.{take_all, get_or-set_same, get_or-set_other}
use Rattle.std.proofs.lemmas.List.Sums.{sum_by_more, sum_by-take-le}
use Rattle.image_regions.specs.Levels.{level}

-- the counts up to one value more, and all of them
pub sum_more : (cs : List ℕ) (v : ℕ) → v < length cs → sum (take (v + 1) cs) ≡ sum (take v cs) + get_or cs v 0
sum_more cs v below = sum_by_more (λ n. n) cs v 0 below

pub sum_all : (cs : List ℕ) (v : ℕ) → length cs ≤ v → sum (take v cs) ≡ sum cs
sum_all cs v whole = ap sum (take_all v cs whole)

pub share_is_level : (cs : List ℕ) (v n t : ℕ) → n ≡ sum (take (v + 1) cs) → t ≡ sum cs → 255 * n / max t 1 ≡ level cs v
share_is_level cs v n t part whole = ap (λ m. 255 * m / max t 1) part ∙ ap (λ m. 255 * sum (take (v + 1) cs) / max m 1) whole

pub part_within : (cs : List ℕ) (v n t : ℕ) → n ≡ sum (take (v + 1) cs) → t ≡ sum cs → n ≤ t
part_within cs v n t part whole = omega (arith, sum_by-take-le (λ m. m) cs (v + 1), part, whole)

-- an item more of a table of some function
one_item : (f : ℕ → ℕ) (ts : List ℕ) (v n : ℕ) → v < length ts → n ≡ f v → ((w : ℕ) → w < v → get_or ts w 0 ≡ f w) → (w : ℕ) → w < v + 1 → get_or (set ts v n) w 0 ≡ f w
one_item f ts v n within is before w below = ⊎_elim
    (λ s. ap (λ i. get_or (set ts v n) i 0) s.1 ∙ get_or-set_same ts v n 0 within ∙ is ∙ ap f (sym s.1))
    (λ o. get_or-set_other ts v w n 0 o.1 ∙ before w (omega (arith, below, o.1)))
    (eqb_tells w v)

pub one_sum : (cs ts : List ℕ) (v n : ℕ) → v < length ts → n ≡ sum (take (v + 1) cs) → ((w : ℕ) → w < v → get_or ts w 0 ≡ sum (take (w + 1) cs))
    → (w : ℕ) → w < v + 1 → get_or (set ts v n) w 0 ≡ sum (take (w + 1) cs)
one_sum cs ts v n within is before = one_item (λ w. sum (take (w + 1) cs)) ts v n within is before

pub one_level : (cs ts : List ℕ) (v n : ℕ) → v < length ts → n ≡ level cs v → ((w : ℕ) → w < v → get_or ts w 0 ≡ level cs w)
    → (w : ℕ) → w < v + 1 → get_or (set ts v n) w 0 ≡ level cs w
one_level cs ts v n within is before = one_item (level cs) ts v n within is before

pub ruleset level_tables = (sum_more, sum_all, share_is_level, part_within, one_sum, one_level)
