-- One shape more was seen.
use Rattle.std.proofs.Common.{◌≡◌, ◌≤◌, ℕ, List, ◌∷◌, Some, IfSome, refl, sym, ◌∙◌, subst, arith, inl, inr}
use Rattle.std.proofs.lemmas.Bool.{cases_lt}
use Rattle.frame_edits.specs.declared.words.Edit.{Edit}
use Rattle.frame_requests.specs.Seen.{AreKept, Knows, Sees, kept_shapes, last_seen}
use Rattle.frame_requests.specs.declared.seen.Seen.{Seen}
use Rattle.frame_requests.specs.declared.seen.Shape.{Shape}
use Rattle.frame_requests.proofs.FirstUncovered.{knows_with, shape_before, shape_from}
use Rattle.frame_requests.proofs.KeptShapes.{kept_again}

-- it is the last one again
pub sees_same : (steps : List Edit) (shapes : List (ℕ × Shape)) (s : Seen) (number : ℕ) (shape : Shape) → s.shape ≡ Some shape → Sees steps shapes s → last_seen s ≤ number
    → Sees steps ((number, shape) ∷ shapes) (record { shape = s.shape; first = s.first; last = number; known = s.known; shapes = s.shapes })
sees_same steps shapes s number shape same sees order = record {
  last_shape = λ n from. elim (cases_lt n number) [ inl before ↦ shape_before shapes number shape n before ∙ sees.last_shape n from | inr past ↦ shape_from shapes number shape n past ∙ sym same ];
  last = refl;
  within = omega (arith, sees.within, order);
  knows = knows_with s.known steps shapes number shape s.first (omega (arith, sees.within, order)) sees.knows;
  kept = kept_again shapes s.first number shape (omega (arith, sees.within, order)) (λ n from. sees.last_shape n from ∙ same) (kept_shapes s) sees.kept;
}

-- it is another one, and the frames before it are known
pub sees_other : (steps : List Edit) (shapes : List (ℕ × Shape)) (s : Seen) (number : ℕ) (shape : Shape) → s.shape ≡ Some shape → s.first ≡ number → s.last ≡ number → Knows s.known steps shapes (λ at. number) → IfSome (kept_shapes s) (AreKept ((number, shape) ∷ shapes) number) → Sees steps ((number, shape) ∷ shapes) s
sees_other steps shapes s number shape shape_is first_is last_is knows kept = record {
  last_shape = λ n from. shape_from shapes number shape n (omega (arith, from, first_is)) ∙ sym shape_is;
  last = last_is;
  within = omega (arith, first_is, last_is);
  knows = subst (λ n. Knows s.known steps ((number, shape) ∷ shapes) (λ at. n)) (sym first_is) (knows_with s.known steps shapes number shape number (omega arith) knows);
  kept = subst (λ n. IfSome (kept_shapes s) (AreKept ((number, shape) ∷ shapes) n)) (sym first_is) kept;
}
