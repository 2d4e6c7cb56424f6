-- Whether each of some items passes a test, one after the other.
use Rattle.std.proofs.Common.{◌≡◌, ◌<◌, ◌≤◌, ◌+◌, ◌&&◌, ℕ, All, Bool, true, false, List, [], ◌∷◌, length, drop, get_or, take, refl, subst, sym, ap, ◌∙◌}
use Rattle.std.specs.List.{AllByRecursion, list_all}
use Rattle.std.proofs.lemmas.List.{at_drop_more, at_drop_all, take_all}
use Rattle.std.proofs.lemmas.List.Elements.{recursion_from_All}

pub all_more : {A : Type 0} (f : A → Bool) (xs : List A) (i : ℕ) (d : A) (total : Bool) → i < length xs → f (get_or xs i d) ≡ true → list_all f (drop i xs) ≡ total → list_all f (drop (i + 1) xs) ≡ total
all_more f xs i d total within passes so_far =
    sym (at_drop_more (λ ys. list_all f ys) xs i d within ∙ ap (λ b. b && list_all f (drop (i + 1) xs)) passes) ∙ so_far

pub all_stops : {A : Type 0} (f : A → Bool) (xs : List A) (i : ℕ) (d : A) (total : Bool) → i < length xs → f (get_or xs i d) ≡ false → list_all f (drop i xs) ≡ total → total ≡ false
all_stops f xs i d total within fails so_far =
    sym so_far ∙ (at_drop_more (λ ys. list_all f ys) xs i d within ∙ ap (λ b. b && list_all f (drop (i + 1) xs)) fails)

pub all_over : {A : Type 0} (f : A → Bool) (xs : List A) (i : ℕ) (total : Bool) → length xs ≤ i → list_all f (drop i xs) ≡ total → total ≡ true
all_over f xs i total past so_far = sym so_far ∙ at_drop_all (λ ys. list_all f ys) xs i past

-- a test that is true of each is so of all
pub all_pass : {A : Type 0} (f : A → Bool) (xs : List A) (n : ℕ) → length xs ≤ n → All (λ x. f x ≡ true) (take n xs) → list_all f xs ≡ true
all_pass f xs n whole all = each_passes xs (recursion_from_All _ xs (subst (All (λ x. f x ≡ true)) (take_all n xs whole) all))
  where
    each_passes : (ys : List _) → AllByRecursion (λ x. f x ≡ true) ys → list_all f ys ≡ true
    each_passes [] all = refl
    each_passes (y ∷ ys) all = ap (λ b. b && list_all f ys) all.0 ∙ each_passes ys all.1
