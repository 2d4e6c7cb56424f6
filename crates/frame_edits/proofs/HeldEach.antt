-- What boxes become, one after the other.
use Rattle.std.proofs.Common.{◌≡◌, ◌<◌, ℕ, zero, suc, ◌+◌, List, [], ◌∷◌, ◌++◌, length, sym, ap, ◌∙◌, arith, append_assoc, add-one}
use Rattle.std.specs.List.{flat_map, range_with_len}
use Rattle.std.proofs.lemmas.List.{append-nil}
use Rattle.frame_edits.specs.Holds.{held}
use Rattle.frame_edits.specs.declared.box_covers.BoxStyle.{BoxStyle}
use Rattle.frame_texts.specs.declared.boxes.Tracked.{Tracked}

one_more : {A : Type 0} (f : ℕ → List A) (a n at : ℕ) → a + n ≡ at → flat_map f (range_with_len a (suc n)) ≡ flat_map f (range_with_len a n) ++ f at
one_more f a zero at e = append-nil (f a) ∙ ap f (omega arith)
one_more f a (suc n) at e = ap (λ l. f a ++ l) (one_more f (a + 1) n at (omega arith)) ∙ sym (append_assoc (f a) (flat_map f (range_with_len (a + 1) n)) (f at))

pub one_place_more : {A : Type 0} (f : ℕ → List A) (a n at : ℕ) → a + n ≡ at → flat_map f (range_with_len a (n + 1)) ≡ flat_map f (range_with_len a n) ++ f at
one_place_more f a n at e = rw (add-one n) (one_more f a n at e)

-- what no box becomes is nothing
pub held_some : (style : BoxStyle) (hold : ℕ) (boxes : List Tracked) → 0 < length (held style hold boxes) → 0 < length boxes
held_some style hold [] some = absurd (omega (arith, some))
held_some style hold (b ∷ bs) some = omega arith
