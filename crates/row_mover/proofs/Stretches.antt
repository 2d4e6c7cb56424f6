-- A stretch that is copied by blocks of n cells, each read before any block overwrites it.
use Rattle.std.proofs.Common.{◌≡◌, refl, ap, subst, ◌∙◌, ℕ, ◌+◌, ◌-◌, ◌*◌, ◌≤◌, Bool, true, false, List, ◌++◌, length, take, drop, length-take, length-drop, arith}
use Rattle.std.proofs.lemmas.List.{same_lists, places}
use Rattle.image_model.specs.Shifts.{shifted}
use Rattle.row_mover.specs.State.{block_at, GoesTo}

-- the list with `block` in the place of the n cells from `at` on
abbrev pub with_block : {T : Type 0} → List T → ℕ → ℕ → List T → List T
with_block cells at n block = take at cells ++ (block ++ drop n (drop at cells))

-- the list once all but `left` cells of the stretch were copied: towards the back its last cells are copied first, else its first ones
abbrev pub partly_copied : {T : Type 0} → Bool → List T → ℕ → ℕ → ℕ → ℕ → List T
partly_copied true cells start len target left = shifted cells (start + left) (len - left) (target + left)
partly_copied false cells start len target left = shifted cells start (len - left) target

module _ {T : Type 0} (cells : List T) (start len target : ℕ) (source : start + len ≤ length cells) (inside : target + len ≤ length cells) where
  -- the first and the last n cells are all of the stretch
  pub ends_shifted : (n : ℕ) → n ≤ len → len ≤ 2 * n → with_block (with_block cells target n (take n (drop start cells))) (target + len - n) n (take n (drop (start + len - n) cells)) ≡ shifted cells start len target
  ends_shifted n enough few = same_lists _ _ (grind (arith, places)) (λ k d below. grind (arith, places))

-- a block more: towards the back no cell before it is written, and else no cell after it
pub block_more : {T : Type 0} (up : Bool) (cells : List T) (start len target left n : ℕ) → GoesTo up start len target (length cells) → n ≤ left → left ≤ len
    → shifted (partly_copied up cells start len target left) (start + block_at up len (left - n) n) n (target + block_at up len (left - n) n) ≡ partly_copied up cells start len target (left - n)
block_more true cells start len target left n goes enough within = let above = goes.back refl in same_lists _ _ (grind (arith, places)) (λ k d below. grind (arith, places))
block_more false cells start len target left n goes enough within = let under = goes.front refl in same_lists _ _ (grind (arith, places)) (λ k d below. grind (arith, places))

-- none is left
none_left : {T : Type 0} (up : Bool) (cells : List T) (start len target : ℕ) → partly_copied up cells start len target 0 ≡ shifted cells start len target
none_left true cells start len target = let first : start + 0 ≡ start = omega arith in let place : target + 0 ≡ target = omega arith in let all : len - 0 ≡ len = omega arith in λ i. shifted cells (first i) (all i) (place i)
none_left false cells start len target = let all : len - 0 ≡ len = omega arith in ap (λ n. shifted cells start n target) all

-- all that are left
pub all_copied : {T : Type 0} (up : Bool) (cells : List T) (start len target left : ℕ) → GoesTo up start len target (length cells) → left ≤ len
    → shifted (partly_copied up cells start len target left) (start + block_at up len 0 left) left (target + block_at up len 0 left) ≡ shifted cells start len target
all_copied up cells start len target left goes within =
    let none : left - left ≡ 0 = omega arith in
    let now = partly_copied up cells start len target left in
    subst (λ rest. shifted now (start + block_at up len rest left) left (target + block_at up len rest left) ≡ partly_copied up cells start len target rest) none (block_more up cells start len target left left goes (omega arith) within)
    ∙ none_left up cells start len target

-- none is copied yet
pub none_copied : {T : Type 0} (up : Bool) (cells : List T) (start len target : ℕ) → GoesTo up start len target (length cells) → cells ≡ partly_copied up cells start len target len
none_copied true cells start len target goes = same_lists _ _ (grind (arith, places)) (λ k d below. grind (arith, places))
none_copied false cells start len target goes = same_lists _ _ (grind (arith, places)) (λ k d below. grind (arith, places))

-- a stretch and the cells next to it, as a list of their own
module _ {T : Type 0} (cells : List T) (start len by : ℕ) (inside : start + (len + by) ≤ length cells) where
  -- how many cells it has
  pub part_counted : (start + (len + by) - start ≡ len + by) × (length (take (len + by) (drop start cells)) - by ≡ len)
  part_counted = (omega arith, omega (arith, length-take (len + by) (drop start cells), length-drop start cells, inside))

  pub next_shifted : with_block cells start (len + by) (shifted (take (len + by) (drop start cells)) 0 len by) ≡ shifted cells start len (start + by)
  next_shifted = same_lists _ _ (grind (arith, places)) (λ k d below. grind (arith, places))

  pub previous_shifted : with_block cells start (len + by) (shifted (take (len + by) (drop start cells)) by len 0) ≡ shifted cells (start + by) len start
  previous_shifted = same_lists _ _ (grind (arith, places)) (λ k d below. grind (arith, places))

-- what the proofs of copies by blocks go by
pub ruleset by_blocks = (ends_shifted)
