-- Images of equal bytes feed a hasher the same rows.
use Rattle.std.proofs.Common.{◌≡◌, ℕ, List, ◌∷◌, sym, ap, ◌∙◌, arith, nat_eq}
use Rattle.std.specs.List.{AllZip, fold}
use Rattle.std.proofs.lemmas.Bool.{eqb-true}
use Rattle.image_model.specs.Layout.{Layout}
use Rattle.image_model.specs.Alike.{Alike}
use Rattle.image_model.proofs.Alike.{alike_shown}
use Rattle.image_model.proofs.Agreement.{PixelsAlike}
use Rattle.image_ops.specs.Hashing.{fed_by_rows}

equal_bytes : (xs ys : List ℕ) → PixelsAlike nat_eq xs ys → xs ≡ ys
equal_bytes (x ∷ xs) (y ∷ ys) h = let one = eqb-true x y h.0 in let rest = equal_bytes xs ys h.1 in λ i. one i ∷ rest i
equal_bytes _ _ h = grind arith

equal_rows : (xss yss : List (List ℕ)) → AllZip (PixelsAlike nat_eq) xss yss → xss ≡ yss
equal_rows (xs ∷ xss) (ys ∷ yss) h = let one = equal_bytes xs ys h.0 in let rest = equal_rows xss yss h.1 in λ i. one i ∷ rest i
equal_rows _ _ h = grind arith

fed_alike : (k l : Layout ℕ) → Alike nat_eq k l → fed_by_rows k ≡ fed_by_rows l
fed_alike = alike_shown nat_eq (λ rows. rows) equal_rows

-- a hasher that was fed one of two images of equal bytes is as if it had been fed the other
pub as_if_fed : {S : Type 0} (write : S → List ℕ → S) (s t : S) (l : Layout ℕ) → t ≡ fold write s (fed_by_rows l)
    → (other : Layout ℕ) → Alike nat_eq other l → t ≡ fold write s (fed_by_rows other)
as_if_fed write s t l h other a = h ∙ sym (ap (fold write s) (fed_alike other l a))
