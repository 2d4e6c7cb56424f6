-- Layouts that are alike: an equivalence, told by sizes and joined rows, and fed to a hasher alike.
use Rattle.std.proofs.Common.{◌≡◌, Bool, true, false, inl, inr, List, [], ◌∷◌, ◌++◌, sym, ap, ◌∙◌, if◌then◌else◌, ◌⊎◌, ◌&&◌, not, IsTrue, arith, rules}
use Rattle.std.specs.Bool.{Decides}
use Rattle.std.specs.List.{AllZip, flat_map}
use Rattle.std.specs.Cmp.{IsEquivalence, IsPartialEquivalence}
use Rattle.std.specs.Hash as fed
use Rattle.std.specs.Hash.{HashWrites}
use Rattle.std.proofs.lemmas.Bool.{cond-true, cond-false, and_parts, and_from, eqb-true, eq-eqb, not_from_false}
use Rattle.std.specs.Cmp.Lexicographic.{pointwise}
use Rattle.image_model.specs.Layout.{Layout, Fits, is_fitting}
use Rattle.image_model.specs.Grid.{Agree, grid_of}
use Rattle.image_model.specs.Rows.{rows}
use Rattle.image_model.specs.Alike.{Alike, is_alike, BothShow, NeitherFits, fed_by}
use Rattle.image_model.proofs.Places.{is_fitting_decides}
use Rattle.image_model.proofs.Agreement.{PixelsAlike, alike_joined, rows_from_agree, agree_from_joined}

unfit : {T : Type 0} (l : Layout T) → (Fits l → ⊥) → is_fitting l ≡ false
unfit l no_fit = grind arith

-- a test of lists one by one tells what the test of the items does
pointwise_decides : {X : Type 0} (test : X → X → Bool) (R : X → X → Type 0) → ((a b : X) → Decides (test a b) (R a b)) → (xs ys : List X) → Decides (pointwise test xs ys) (AllZip R xs ys)
pointwise_decides test R each (x ∷ xs) (y ∷ ys) = grind (arith, pointwise_decides test R each xs ys)
pointwise_decides test R each _ _ = grind arith

module _ {T : Type 0} (eq : T → T → Bool) where
  -- ---- an equivalence, where the pixel's equality is

  pub alike_trans : IsPartialEquivalence eq → (k l m : Layout T) → Alike eq k l → Alike eq l m → Alike eq k m
  alike_trans laws k l m a b = search rules

  -- where alike layouts fit, their grids agree
  pub alike_agree : (k l : Layout T) → Alike eq k l → Fits k → Agree eq (grid_of k) (grid_of l)
  alike_agree k l a fits = elim a.same_pixels [ inl both ↦ both.2 | inr neither ↦ absurd (neither.0 fits) ]

  -- ---- the test

  rows_decide : (xss yss : List (List T)) → Decides (pointwise (pointwise eq) xss yss) (AllZip (PixelsAlike eq) xss yss)
  rows_decide xss yss = pointwise_decides (pointwise eq) (PixelsAlike eq) (pointwise_decides eq (λ a b. IsTrue (eq a b)) (λ a b. (λ e. e, λ e. e))) xss yss

  -- the test tells whether layouts are alike
  pub is_alike_decides : (k l : Layout T) → Decides (is_alike eq k l) (Alike eq k l)
  is_alike_decides k l = (told, tested)
    where
      shown : (is_fitting k ≡ true) ⊎ (is_fitting k ≡ false) → k.width ≡ l.width → k.height ≡ l.height
          → (if is_fitting k then is_fitting l && pointwise (pointwise eq) (rows k) (rows l) else not (is_fitting l)) ≡ true → BothShow eq k l ⊎ NeitherFits k l
      shown (inl e) wide high h =
          let both = and_parts _ _ (sym (cond-true (is_fitting k) _ _ e) ∙ h) in
          let k_fits = (is_fitting_decides k).0 e in
          let l_fits = (is_fitting_decides l).0 both.0 in
          inl (k_fits, l_fits, agree_from_joined eq k l k_fits l_fits wide high (alike_joined eq (rows k) (rows l) ((rows_decide (rows k) (rows l)).0 both.1)))
      shown (inr e) wide high h = grind arith

      told : is_alike eq k l ≡ true → Alike eq k l
      told h = grind (arith, eqb-true, shown)

      tested : Alike eq k l → is_alike eq k l ≡ true
      tested a = grind (arith, cond-true, cond-false, and_from, eq-eqb, not_from_false, is_fitting_decides, rows_from_agree, rows_decide)

  -- as a test it is an equivalence, where the pixel's is
  pub is_alike_per : IsPartialEquivalence eq → IsPartialEquivalence (is_alike eq)
  is_alike_per laws = search (rules, alike_trans, is_alike_decides)

  pub is_alike_equiv : IsEquivalence eq → IsEquivalence (is_alike eq)
  is_alike_equiv laws = grind (arith, is_alike_decides, is_alike_per)

  -- ---- fed alike

  -- alike layouts feed a hasher alike, where rows that are alike do
  pub alike_shown : (made : List (List T) → HashWrites) → ((xss yss : List (List T)) → AllZip (PixelsAlike eq) xss yss → made xss ≡ made yss) → (k l : Layout T) → Alike eq k l
      → fed.u32 k.width ++ (fed.u32 k.height ++ (if is_fitting k then made (rows k) else [])) ≡ fed.u32 l.width ++ (fed.u32 l.height ++ (if is_fitting l then made (rows l) else []))
  alike_shown made same k l a =
      let shown : (if is_fitting k then made (rows k) else []) ≡ (if is_fitting l then made (rows l) else []) = elim a.same_pixels [
        | inl both ↦
            cond-true (is_fitting k) _ _ ((is_fitting_decides k).1 both.0)
            ∙ same (rows k) (rows l) (rows_from_agree eq k l both.2)
            ∙ sym (cond-true (is_fitting l) _ _ ((is_fitting_decides l).1 both.1))
        | inr neither ↦
            cond-false (is_fitting k) _ _ (unfit k neither.0) ∙ sym (cond-false (is_fitting l) _ _ (unfit l neither.1))
      ] in
      let wide = ap fed.u32 a.same_width in
      let high = ap fed.u32 a.same_height in
      λ i. wide i ++ (high i ++ shown i)

  module _ (feed : T → HashWrites) (lawful : fed.Alike eq feed) where
    fed_pixels : (xs ys : List T) → PixelsAlike eq xs ys → flat_map feed xs ≡ flat_map feed ys
    fed_pixels (x ∷ xs) (y ∷ ys) h = let one = lawful.fed x y h.0 in let rest = fed_pixels xs ys h.1 in λ i. one i ++ rest i
    fed_pixels _ _ h = grind arith

    fed_rows : (xss yss : List (List T)) → AllZip (PixelsAlike eq) xss yss → flat_map (flat_map feed) xss ≡ flat_map (flat_map feed) yss
    fed_rows (xs ∷ xss) (ys ∷ yss) h = let one = fed_pixels xs ys h.0 in let rest = fed_rows xss yss h.1 in λ i. one i ++ rest i
    fed_rows _ _ h = grind arith

    -- alike layouts of a pixel that is fed alike feed a hasher alike
    pub alike_fed : (k l : Layout T) → Alike eq k l → fed_by feed k ≡ fed_by feed l
    alike_fed = alike_shown (flat_map (flat_map feed)) fed_rows

    -- and so does the test say
    pub is_alike_fed : fed.Alike (is_alike eq) (fed_by feed)
    is_alike_fed = record { fed = λ k l same. alike_fed k l ((is_alike_decides k l).0 same) }
