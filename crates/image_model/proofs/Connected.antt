-- Connected places: what they show, the steps between them, and fills that go from place to place.
use Rattle.std.proofs.Common.{zero, suc, ◌≡◌, ℕ, ◌-◌, ◌⊎◌, inl, inr, List, [], ◌∷◌, refl, sym, ap, ◌∙◌, subst, arith, ⊎_elim, ◌≢◌, Some, ◌++◌, length}
use Rattle.std.proofs.lemmas.Bool.Decides.{eqb_tells}
use Rattle.std.specs.List.{Contains}
use Rattle.image_model.specs.Grid.{Grid, grid_of, patch, uniform}
use Rattle.std.proofs.lemmas.List.Elements.{Contains-append_left, Contains-append_right, Contains-append_cases, Contains-push, Contains-push_cases}
use Rattle.image_model.specs.Layout.{Layout}
use Rattle.image_model.proofs.Patches.{put_pixel}
use Rattle.image_model.proofs.Reading.{is_a_place}
use Rattle.image_model.specs.Connected.{Beside, beside, IsConnected, start, next, AllFilled, Flooding}
use Rattle.image_model.proofs.Puts.{put_cases}

-- a connected place shows what the start shows
pub connected_same : {T : Type 0} (g : Grid T) (x y u v : ℕ) → IsConnected g x y u v → g.pixel u v ≡ g.pixel x y
connected_same g x y u v start = refl
connected_same g x y u v (next path step same) = same

-- the list of the places beside one has each of them
pub all_beside : (x y u v : ℕ) → Beside x y u v → Contains (beside x y) (u, v)
all_beside x y u v step = ⊎_elim
    (λ row. ⊎_elim
    (λ e. (0, omega arith, ap (λ i. (i, y)) (sym e) ∙ ap (λ j. (u, j)) row.0))
    (λ e. (2, omega arith, ap (λ i. (i, y)) (omega (arith, e)) ∙ ap (λ j. (u, j)) row.0))
    row.1)
    (λ column. ⊎_elim
    (λ e. (1, omega arith, ap (λ j. (x, j)) (sym e) ∙ ap (λ i. (i, v)) column.0))
    (λ e. (3, omega arith, ap (λ j. (x, j)) (omega (arith, e)) ∙ ap (λ i. (i, v)) column.0))
    column.1)
    step

-- and no other one except the place itself
pub only_beside : (x y u v : ℕ) → Contains (beside x y) (u, v) → Beside x y u v ⊎ ((u ≡ x) × (v ≡ y))
only_beside x y u v (zero, _, e) = inl (inl (ap (λ p. p.1) e, inl (sym (ap (λ p. p.0) e))))
only_beside x y u v (suc zero, _, e) = inl (inr (ap (λ p. p.0) e, inl (sym (ap (λ p. p.1) e))))
only_beside x y u v (suc (suc zero), _, e) = let across : x - 1 ≡ u = ap (λ p. p.0) e in let down : y ≡ v = ap (λ p. p.1) e in ⊎_elim (λ s. inr (omega (arith, s, across), sym down)) (λ s. inl (inl (down, inr (omega (arith, s, across))))) (eqb_tells x 0)
only_beside x y u v (suc (suc (suc zero)), _, e) = let across : x ≡ u = ap (λ p. p.0) e in let down : y - 1 ≡ v = ap (λ p. p.1) e in ⊎_elim (λ s. inr (sym across, omega (arith, s, down))) (λ s. inl (inr (across, inr (omega (arith, s, down))))) (eqb_tells y 0)
only_beside x y u v (suc (suc (suc (suc k))), below, e) = absurd (omega (arith, below))

-- from a connected place one comes to each place beside it that shows the start's pixel
pub connected_beside : {T : Type 0} (g : Grid T) (x y m n u v : ℕ) → IsConnected g x y m n → Contains (beside m n) (u, v) → g.pixel u v ≡ g.pixel x y → IsConnected g x y u v
connected_beside g x y m n u v path listed same = ⊎_elim
    (λ step. next path step same)
    (λ s. subst (λ i. IsConnected g x y i v) (sym s.0) (subst (λ j. IsConnected g x y m j) (sym s.1) path))
    (only_beside m n u v listed)

-- ---- connection goes both ways, and on

-- sides are shared both ways
pub beside_back : (x y u v : ℕ) → Beside x y u v → Beside u v x y
beside_back x y u v step = ⊎_elim
    (λ r. inl (sym r.0, ⊎_elim inr inl r.1))
    (λ c. inr (sym c.0, ⊎_elim inr inl c.1))
    step

module _ {T : Type 0} (g : Grid T) where
  -- two paths make one
  pub connected_onward : (x y u v m n : ℕ) → IsConnected g x y u v → IsConnected g u v m n → IsConnected g x y m n
  connected_onward x y u v m n path start = path
  connected_onward x y u v m n path (next {u = a} {v = b} more step same) = next (connected_onward x y u v a b path more) step (same ∙ connected_same g x y u v path)

  -- a path leads back
  pub connected_back : (x y u v : ℕ) → IsConnected g x y u v → IsConnected g u v x y
  connected_back x y u v start = start
  connected_back x y u v (next {u = a} {v = b} path step same) =
      connected_onward u v a b x y (next start (beside_back a b u v step) (connected_same g x y a b path ∙ sym same)) (connected_back x y a b path)

-- ---- a fill: how it begins, goes on and ends

module _ {T : Type 0} (g : Grid T) (x y : ℕ) (seed value : T) (seeded : g.pixel x y ≡ Some seed) (other : seed ≢ value) where
  -- a place can't show both
  not_both : (h : Grid T) (u v : ℕ) → h.pixel u v ≡ g.pixel x y → h.pixel u v ≡ Some value → ⊥
  not_both h u v is has = let e : Some seed ≡ Some value = sym seeded ∙ sym is ∙ has in other (cc e)

  -- at first only the start has to be looked at
  pub flood_begins : (p : List (ℕ × ℕ)) → p ≡ (x, y) ∷ [] → Flooding g x y value g p
  flood_begins p is = subst (λ q. Flooding g x y value g q) (sym is) (record {
    filled = λ u v. inl refl;
    connected = λ u v listed _. ⊎_elim (λ c. absurd (omega (arith, c.1))) (λ e. subst (λ p. IsConnected g x y p.0 p.1) e start) (Contains-push_cases [] (x, y) (u, v) listed);
    waiting = λ u v m n path has _ _. absurd (not_both g u v (connected_same g x y u v path) has);
    begun = inr (Contains-push [] (x, y));
  })

  -- a place is taken from the list that doesn't show the seed
  pub flood_skips : (h : Grid T) (p : List (ℕ × ℕ)) (m n : ℕ) → h.pixel m n ≢ Some seed → Flooding g x y value h (p ++ (m, n) ∷ []) → Flooding g x y value h p
  flood_skips h p m n miss f = record {
    filled = f.filled;
    connected = λ u v listed same. f.connected u v (Contains-append_left p _ (u, v) listed) same;
    waiting = λ u v i j path has step way. ⊎_elim (λ c. c) (λ e. absurd (miss (ap (λ q. h.pixel q.0 q.1) e ∙ way ∙ seeded))) (Contains-push_cases p (m, n) (i, j) (f.waiting u v i j path has step way));
    begun = ⊎_elim inl (λ c. ⊎_elim inr (λ e. ⊎_elim (λ same. absurd (miss (ap (λ q. h.pixel q.0 q.1) e ∙ same ∙ seeded))) (λ r. inl r.1) (f.filled x y)) (Contains-push_cases p (m, n) (x, y) c)) f.begun;
  }

  -- a place is taken that shows it: it gets the value, and the places beside it are noted
  pub flood_marks : (h k : Grid T) (p q : List (ℕ × ℕ)) (m n : ℕ) → h.pixel m n ≡ Some seed
      → ((u v : ℕ) → (k.pixel u v ≡ h.pixel u v) ⊎ ((u ≡ m) × (v ≡ n) × (k.pixel u v ≡ Some value))) → k.pixel m n ≡ Some value → q ≡ p ++ beside m n
      → Flooding g x y value h (p ++ (m, n) ∷ []) → Flooding g x y value k q
  flood_marks h k p q m n hit cases now noted f = subst (λ r. Flooding g x y value k r) (sym noted) (record {
    filled = λ u v. ⊎_elim (λ same. ⊎_elim (λ e. inl (same ∙ e)) (λ r. inr (r.0, same ∙ r.1)) (f.filled u v)) (λ at. inr (subst (λ i. IsConnected g x y i v) (sym at.0) (subst (λ j. IsConnected g x y m j) (sym at.1) there), at.2)) (cases u v);
    connected = λ u v listed same. ⊎_elim (λ c. f.connected u v (Contains-append_left p _ (u, v) c) same) (λ c. connected_beside g x y m n u v there c same) (Contains-append_cases p (beside m n) (u, v) listed);
    waiting = waiting;
    begun = ⊎_elim (λ has. ⊎_elim (λ same. inl (same ∙ has)) (λ at. inl at.2) (cases x y)) (λ c. ⊎_elim (λ d. inr (Contains-append_left p _ (x, y) d)) (λ e. inl (sym (ap (λ q. k.pixel q.0 q.1) e) ∙ now)) (Contains-push_cases p (m, n) (x, y) c)) f.begun;
  })
    where
      there : IsConnected g x y m n
      there = f.connected m n (Contains-push p (m, n)) (⊎_elim (λ e. sym e ∙ hit ∙ sym seeded) (λ r. absurd (not_both h m n (hit ∙ sym seeded) r.1)) (f.filled m n))

      waiting : (u v i j : ℕ) → IsConnected g x y u v → k.pixel u v ≡ Some value → Beside u v i j → k.pixel i j ≡ g.pixel x y → Contains (p ++ beside m n) (i, j)
      waiting u v i j path has step way = ⊎_elim
          (λ was. ⊎_elim
          (λ same. ⊎_elim (λ c. Contains-append_left p _ (i, j) c) (λ e. absurd (not_both k m n (ap (λ q. k.pixel q.0 q.1) e ∙ way) now)) (Contains-push_cases p (m, n) (i, j) (f.waiting u v i j path (sym was ∙ has) step (sym same ∙ way))))
          (λ at. absurd (not_both k i j way at.2))
          (cases i j))
          (λ at. Contains-append_right p _ (i, j) (subst (λ a. Contains (beside a n) (i, j)) at.0 (subst (λ b. Contains (beside u b) (i, j)) at.1 (all_beside u v i j step))))
          (cases u v)

  -- the same in an image, by one put
  pub flood_goes_on : (l : Layout T) (p q : List (ℕ × ℕ)) (m n : ℕ) (h : Grid T) → (grid_of l).pixel m n ≡ Some seed → h ≡ patch (grid_of l) m n (uniform 1 1 value) → q ≡ p ++ beside m n
      → Flooding g x y value (grid_of l) (p ++ (m, n) ∷ []) → Flooding g x y value h q
  flood_goes_on l p q m n h hit put noted f =
      let place = is_a_place l m n seed hit in
      subst (λ i. Flooding g x y value i q) (sym put) (flood_marks (grid_of l) (patch (grid_of l) m n (uniform 1 1 value)) p q m n hit (put_cases l m n value place.0 place.1) (put_pixel l m n value place.0 place.1) noted f)

reached : {T : Type 0} (g : Grid T) (x y : ℕ) (value : T) (h : Grid T) → Flooding g x y value h [] → AllFilled x y value g h
reached g x y value h f u v start = ⊎_elim (λ has. has) (λ c. absurd (omega (arith, c.1))) f.begun
reached g x y value h f u v (next {u = m} {v = n} path step same) = ⊎_elim
    (λ e. let c = f.waiting m n u v path (reached g x y value h f m n path) step (e ∙ same) in absurd (omega (arith, c.1)))
    (λ r. r.1)
    (f.filled u v)

-- when no place has to be looked at, the flood is done
pub flood_ends : {T : Type 0} (g : Grid T) (x y : ℕ) (value : T) (h : Grid T) (p : List (ℕ × ℕ)) → Flooding g x y value h p → length p ≡ 0 → AllFilled x y value g h
flood_ends g x y value h [] f none = reached g x y value h f
flood_ends g x y value h (q ∷ p) f none = absurd (omega (arith, none))

-- these laws, for a caller's `using`
pub ruleset floods = (flood_begins, flood_skips, flood_goes_on, flood_ends)
