-- Fills that go from place to place: the order of the places that have to be looked at doesn't matter, and one is looked at.
use Rattle.std.proofs.Common.{◌≡◌, ◌≢◌, ℕ, inl, inr, Some, List, [], ◌∷◌, ◌++◌, refl, sym, subst, ⊎_elim}
use Rattle.std.specs.List.{Contains}
use Rattle.image_model.specs.Layout.{Layout}
use Rattle.image_model.specs.Grid.{Grid, grid_of, patch, uniform}
use Rattle.image_model.specs.Connected.{beside, Flooding}
use Rattle.image_model.proofs.Connected.{flood_goes_on}
use Rattle.image_regions.proofs.Pending.{parts_swapped}

flood_relisted : {T : Type 0} (g : Grid T) (x y : ℕ) (value : T) (h : Grid T) (p q : List (ℕ × ℕ)) → ((c : ℕ × ℕ) → Contains p c → Contains q c) → ((c : ℕ × ℕ) → Contains q c → Contains p c)
    → Flooding g x y value h p → Flooding g x y value h q
flood_relisted g x y value h p q to back f = record {
  filled = f.filled;
  connected = λ u v listed same. f.connected u v (back (u, v) listed) same;
  waiting = λ u v m n path has step way. to (m, n) (f.waiting u v m n path has step way);
  begun = ⊎_elim inl (λ c. inr (to (x, y) c)) f.begun;
}

-- a place that shows the seed gets the value, and the places beside it are put before the others
pub flood_notes : {T : Type 0} (g : Grid T) (x y : ℕ) (seed value : T) → g.pixel x y ≡ Some seed → seed ≢ value → (l : Layout T) (h : Grid T) (m n : ℕ) (a b rest : List (ℕ × ℕ))
    → (grid_of l).pixel m n ≡ Some seed → h ≡ patch (grid_of l) m n (uniform 1 1 value) → b ≡ a ++ beside m n
    → Flooding g x y value (grid_of l) (a ++ rest ++ (m, n) ∷ []) → Flooding g x y value h (b ++ rest)
flood_notes g x y seed value seeded other l h m n a b rest hit put noted f =
    let on = flood_goes_on g x y seed value seeded other l (a ++ rest) (a ++ rest ++ beside m n) m n h hit put refl f in
    subst (λ p. Flooding g x y value h (p ++ rest)) (sym noted) (flood_relisted g x y value h (a ++ rest ++ beside m n) (a ++ beside m n ++ rest) (parts_swapped a rest (beside m n)) (parts_swapped a (beside m n) rest) on)
