-- Lines that were written, one after the other.
use Rattle.std.proofs.Common.{◌≡◌, ◌<◌, ◌≤◌, ◌+◌, ℕ, List, [], ◌++◌, Option, Result, Ok, Err, OnOk, length, take, get_or, sym, ap, ◌∙◌, subst}
use Rattle.std.specs.List.{flat_map}
use Rattle.std.specs.Io.KnownBytes.{Appends}
use Rattle.std.proofs.KnownBytes.{Appends-nil, Appends-trans}
use Rattle.std.proofs.lemmas.List.{flat_map_more, take_all, take_more}

-- one text after another
pub both_written : (a b c : Option (List ℕ)) (first second : List ℕ) → Appends a b first → Appends b c second → Appends a c (first ++ second)
both_written = Appends-trans

-- and another one, where it was written
pub then_written : {T E : Type 0} (r : Result T E) (a b c : Option (List ℕ)) (first second : List ℕ) → Appends a b first → OnOk r (Appends b c second) → OnOk r (Appends a c (first ++ second))
then_written (Ok x) a b c first second so_far more = Appends-trans a b c first second so_far more
then_written (Err e) a b c first second so_far more = tt

module _ {X : Type 0} (f : X → List ℕ) (xs : List X) where
  pub lines_none : (a : Option (List ℕ)) → Appends a a (flat_map f (take 0 xs))
  lines_none a = Appends-nil a

  pub lines_more : (i : ℕ) (d : X) (a b c : Option (List ℕ)) → i < length xs → Appends a b (flat_map f (take i xs)) → Appends b c (f (get_or xs i d)) → Appends a c (flat_map f (take (i + 1) xs))
  lines_more i d a b c within so_far more =
      let all : flat_map f (take i xs) ++ f (get_or xs i d) ≡ flat_map f (take (i + 1) xs) = flat_map_more f [] (take i xs) (get_or xs i d) ∙ ap (flat_map f) (sym (take_more xs i d within)) in
      subst (Appends a c) all (Appends-trans a b c _ _ so_far more)

  pub lines_done : (i : ℕ) (a b : Option (List ℕ)) → length xs ≤ i → Appends a b (flat_map f (take i xs)) → Appends a b (flat_map f xs)
  lines_done i a b past so_far = subst (λ (l : List X). Appends a b (flat_map f l)) (take_all i xs past) so_far
