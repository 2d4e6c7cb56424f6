-- What is known of heads of pictures.
use Rattle.std.proofs.Common.{◌≡◌, ℕ, List, [], ◌∷◌, ◌++◌, Some, None, refl, sym, ap, ◌∙◌, arith, inl, inr}
use Rattle.std.proofs.lemmas.Bool.Decides.{eqb_tells}
use Rattle.frame_texts.specs.Picture.{pushed, scanned, start, done_as, picture_of}
use Rattle.frame_texts.specs.declared.picture.Picture.{Picture}
use Rattle.frame_texts.specs.declared.picture.Scan.{Scan}
use Rattle.frame_texts.specs.declared.picture.Scan.TheVariants.{Done, Bad}
use Rattle.frame_texts.proofs.HeadTexts.{scanned-append, reads_back}

pub one_byte_more : (s : Scan) (bytes : List ℕ) (byte : ℕ) → scanned s (bytes ++ byte ∷ []) ≡ pushed (scanned s bytes) byte
one_byte_more s bytes byte = scanned-append s bytes (byte ∷ [])

bad_is : (xs : List ℕ) → scanned Bad xs ≡ Bad
bad_is [] = refl
bad_is (x ∷ xs) = bad_is xs

done_is : (s : Scan) (p : Picture) → done_as s ≡ Some p → s ≡ Done p
done_is (Done q) p e = cc
done_is _ p e = absurd cc

-- bytes after a head are no part of one
no_more : (s : Scan) (p q : Picture) (y : ℕ) (ys : List ℕ) → done_as s ≡ Some p → done_as (scanned (pushed s y) ys) ≡ Some q → ⊥
no_more s p q y ys done longer = grind (arith, bad_is, done_is)

apart : (s : Scan) (h k a b : List ℕ) (p q : Picture) → done_as (scanned s h) ≡ Some p → done_as (scanned s k) ≡ Some q → h ++ a ≡ k ++ b → (h ≡ k) × (a ≡ b)
apart s [] [] a b p q mine theirs same = (refl, same)
apart s [] (y ∷ k) a b p q mine theirs same = absurd (no_more s p q y k mine theirs)
apart s (x ∷ h) [] a b p q mine theirs same = absurd (no_more s q p x h theirs mine)
apart s (x ∷ h) (y ∷ k) a b p q mine theirs same =
    let first : x ≡ y = cc in
    let others : h ++ a ≡ k ++ b = cc in
    let rest = apart (pushed s x) h k a b p q mine (ap (λ z. done_as (scanned (pushed s z) k)) first ∙ theirs) others in
    (λ i. first i ∷ rest.0 i, rest.1)

pub heads_apart : (h k a b : List ℕ) (p q : Picture) → picture_of h ≡ Some p → picture_of k ≡ Some q → h ++ a ≡ k ++ b → (h ≡ k) × (a ≡ b)
heads_apart h k a b p q mine theirs same = apart start h k a b p q mine theirs same

pub bad_stays : (h a : List ℕ) → scanned start h ≡ Bad → picture_of (h ++ a) ≡ None
bad_stays h a bad = ap done_as (scanned-append start h a ∙ ap (λ s. scanned s a) bad ∙ bad_is a)

pub begins : (h : List ℕ) (p : Picture) → picture_of h ≡ Some p → (t : List ℕ) × (h ≡ 80 ∷ t)
begins [] p e = absurd cc
begins (x ∷ xs) p e =
    elim (eqb_tells x 80) [
      | inl t ↦ (xs, λ i. t.1 i ∷ xs)
      | inr t ↦ absurd (let none : picture_of (x ∷ xs) ≡ None = rw t.0 (ap done_as (bad_is xs)) in let bad : Some p ≡ None = sym e ∙ none in cc)
    ]

-- the laws, for a caller's `using`
pub ruleset laws_of_heads = (heads_apart, one_byte_more, bad_stays, begins, reads_back)
