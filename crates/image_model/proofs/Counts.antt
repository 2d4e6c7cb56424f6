-- Counts of the values that a loop has read: one more of this value, and one pixel less to come.
use Rattle.std.proofs.Common.{◌≡◌, ◌≢◌, ℕ, ◌+◌, ◌<◌, ◌≤◌, ◌==◌, cond, List, [], ◌∷◌, map, replicate, length, set, get_or, true, refl, sym, ap, ◌∙◌, arith, ⊎_elim}
use Rattle.std.specs.List.{range_with_len}
use Rattle.image_model.specs.Counts.{times, histogram_of, counted}
use Rattle.std.proofs.lemmas.List.{get_or-set_same, get_or-set_other, get_or-replicate}
use Rattle.std.proofs.lemmas.List.Sums.{sum_by-cons, count_by-le-length}
use Rattle.std.proofs.lemmas.List.FromFn.{get_or-map-range_with_len, fill_by_all}
use Rattle.image_model.proofs.Tables.{map_along}
use Rattle.std.proofs.lemmas.Bool.{cases_Bool, cond-true, cond-false}
use Rattle.std.proofs.lemmas.Bool.Decides.{nat_tests}

times_cons : (v p : ℕ) (ys : List ℕ) → times v (p ∷ ys) ≡ cond (p == v) 1 0 + times v ys
times_cons v p ys = sum_by-cons (λ q. cond (q == v) 1 0) p ys

module _ (cs : List ℕ) (p : ℕ) (xs ys : List ℕ) (split : xs ≡ p ∷ ys) (inside : p < length cs) where
  -- one more of the first item
  pub more_counted : (v total : ℕ) → get_or cs v 0 + times v xs ≡ total → get_or (set cs p (get_or cs p 0 + 1)) v 0 + times v ys ≡ total
  more_counted v total so =
      let split_count = ap (times v) split ∙ times_cons v p ys in
      ⊎_elim
      (λ same.
      let is : p ≡ v = grind (arith, nat_tests, same) in
      let one = cond-true {A = ℕ} (p == v) 1 0 same in
      let here = ap (λ n. get_or (set cs p (get_or cs p 0 + 1)) n 0) (sym is) ∙ get_or-set_same cs p (get_or cs p 0 + 1) 0 inside in
      let old = ap (λ n. get_or cs n 0) is in
      omega (arith, split_count, one, here, old, so))
      (λ other.
      let is_not : v ≢ p = λ e. grind (arith, nat_tests, other, e) in
      let none = cond-false {A = ℕ} (p == v) 1 0 other in
      let there = get_or-set_other cs p v (get_or cs p 0 + 1) 0 is_not in
      omega (arith, split_count, none, there, so))
      (cases_Bool (p == v))

  -- and one less to come
  pub still_within : (v bound : ℕ) → get_or cs v 0 + length xs ≤ bound → get_or (set cs p (get_or cs p 0 + 1)) v 0 + length ys ≤ bound
  still_within v bound so =
      let split_length = ap length split in
      ⊎_elim
      (λ same.
      let is : p ≡ v = grind (arith, nat_tests, same) in
      let here = ap (λ n. get_or (set cs p (get_or cs p 0 + 1)) n 0) (sym is) ∙ get_or-set_same cs p (get_or cs p 0 + 1) 0 inside in
      let old = ap (λ n. get_or cs n 0) is in
      omega (arith, split_length, here, old, so))
      (λ other.
      let is_not : v ≢ p = λ e. grind (arith, nat_tests, other, e) in
      let there = get_or-set_other cs p v (get_or cs p 0 + 1) 0 is_not in
      omega (arith, split_length, there, so))
      (cases_Bool (p == v))

-- no item is counted yet
pub start_counted : (cs : List ℕ) (v : ℕ) (xs ys : List ℕ) → cs ≡ replicate 256 0 → v < 256 → xs ≡ ys → get_or cs v 0 + times v xs ≡ times v ys
start_counted cs v xs ys zeros below same =
    let zero = ap (λ l. get_or l v 0) zeros ∙ get_or-replicate 256 v 0 0 below in
    omega (arith, zero, ap (times v) same)

pub start_within : (cs : List ℕ) (v : ℕ) (xs : List ℕ) (bound : ℕ) → cs ≡ replicate 256 0 → v < 256 → length xs ≤ bound → get_or cs v 0 + length xs ≤ bound
start_within cs v xs bound zeros below few =
    let zero = ap (λ l. get_or l v 0) zeros ∙ get_or-replicate 256 v 0 0 below in
    omega (arith, zero, few)

-- ---- a table of counts

-- tables are equal that agree at each number
same_table : (n : ℕ) (f g : ℕ → ℕ) → ((v : ℕ) → v < n → f v ≡ g v) → map f (range_with_len 0 n) ≡ map g (range_with_len 0 n)
same_table n f g each = map_along f g 0 0 n (λ k below. let on : 0 + k ≡ k = omega arith in ap f on ∙ each k below ∙ ap g (sym on))

-- nothing is counted yet
pub counted_none : (values : ℕ) (cs xs : List ℕ) → cs ≡ replicate values 0 → counted values cs xs ≡ histogram_of values xs
unfolding counted histogram_of
counted_none values cs xs zeros = same_table values _ _ (λ v below. let zero = ap (λ l. get_or l v 0) zeros ∙ get_or-replicate values v 0 0 below in omega (arith, zero))

module _ (values : ℕ) (cs : List ℕ) where
  -- one item more
  pub counted_more : (p : ℕ) (ys : List ℕ) → p < length cs → counted values (set cs p (get_or cs p 0 + 1)) ys ≡ counted values cs (p ∷ ys)
  unfolding counted
  counted_more p ys inside = same_table values _ _ (λ v below. more_counted cs p (p ∷ ys) ys refl inside v _ refl)

  -- its count is one of the whole list
  pub counted_fits : (p : ℕ) (ys all : List ℕ) → counted values cs (p ∷ ys) ≡ histogram_of values all → p < values → get_or cs p 0 + 1 ≤ length all
  unfolding counted histogram_of
  counted_fits p ys all so below =
      let at : get_or cs p 0 + times p (p ∷ ys) ≡ times p all =
      sym (get_or-map-range_with_len (λ v. get_or cs v 0 + times v (p ∷ ys)) 0 values p p 0 below (omega arith)) ∙ ap (λ l. get_or l p 0) so
      ∙ get_or-map-range_with_len (λ v. times v all) 0 values p p 0 below (omega arith) in
      let one = times_cons p p ys in
      let same : (p == p) ≡ true = grind (arith, nat_tests) in
      omega (arith, at, one, cond-true {A = ℕ} (p == p) 1 0 same, count_by-le-length (λ q. q == p) all)

  -- all are counted
  pub counted_all : length cs ≡ values → counted values cs [] ≡ cs
  unfolding counted
  counted_all long = sym (fill_by_all (λ v. get_or cs v 0 + times v []) cs values 0 long (λ v below. omega arith))

-- these laws, for a caller's `using`
pub ruleset counting = (counted_none, counted_more, counted_fits, counted_all)
