-- Lists read cell by cell.
use Rattle.std.proofs.Common.{◌≡◌, ◌≢◌, ℕ, suc, ◌+◌, ◌<◌, List, [], ◌∷◌, ◌++◌, length, set, take, drop, replicate, Some, refl, sym, ap, arith}
use Rattle.std.specs.List.{slice_get}
use Rattle.std.proofs.lemmas.Option.{same_Some, none-some}

pub slice_get-set_same : {T : Type 0} (xs : List T) (i : ℕ) (a : T) → i < length xs → slice_get (set xs i a) i ≡ Some a
slice_get-set_same (x ∷ xs) (suc i) a h = slice_get-set_same xs i a (omega arith)
slice_get-set_same _ _ a h = grind arith

pub slice_get-set_other : {T : Type 0} (xs : List T) (i j : ℕ) (a : T) → j ≢ i → slice_get (set xs i a) j ≡ slice_get xs j
slice_get-set_other (x ∷ xs) (suc i) (suc j) a h = slice_get-set_other xs i j a (λ e. h (ap suc e))
slice_get-set_other _ _ _ a h = grind arith

pub slice_get-take : {T : Type 0} (n : ℕ) (xs : List T) (i : ℕ) → i < n → slice_get (take n xs) i ≡ slice_get xs i
slice_get-take (suc n) (x ∷ xs) (suc i) h = slice_get-take n xs i (omega arith)
slice_get-take _ _ _ h = grind arith

pub slice_get-drop : {T : Type 0} (n : ℕ) (xs : List T) (i : ℕ) → slice_get (drop n xs) i ≡ slice_get xs (n + i)
slice_get-drop (suc n) (x ∷ xs) i = grind (arith, slice_get-drop n xs i)
slice_get-drop _ _ i = grind arith

pub slice_get-append_left : {T : Type 0} (xs ys : List T) (i : ℕ) → i < length xs → slice_get (xs ++ ys) i ≡ slice_get xs i
slice_get-append_left (x ∷ xs) ys (suc i) h = slice_get-append_left xs ys i (omega arith)
slice_get-append_left _ ys _ h = grind arith

pub slice_get-append_right : {T : Type 0} (xs ys : List T) (n i : ℕ) → length xs ≡ n → slice_get (xs ++ ys) (n + i) ≡ slice_get ys i
slice_get-append_right (x ∷ xs) ys (suc n) i h = grind (arith, slice_get-append_right xs ys n i)
slice_get-append_right _ ys _ i h = grind arith

-- lists with the same cells are one
pub same_cells : {T : Type 0} (xs ys : List T) → ((k : ℕ) → slice_get xs k ≡ slice_get ys k) → xs ≡ ys
same_cells [] [] each = refl
same_cells [] (y ∷ ys) each = absurd (none-some y (each 0))
same_cells (x ∷ xs) [] each = absurd (none-some x (sym (each 0)))
same_cells (x ∷ xs) (y ∷ ys) each = let e = same_Some x y (each 0) in let f = same_cells xs ys (λ k. each (suc k)) in λ i. e i ∷ f i

-- each cell of a list of one value
pub slice_get-replicate : {T : Type 0} (n k : ℕ) (value : T) → k < n → slice_get (replicate n value) k ≡ Some value
slice_get-replicate (suc n) (suc k) value below = slice_get-replicate n k value (omega (arith, below))
slice_get-replicate _ _ value below = grind arith
