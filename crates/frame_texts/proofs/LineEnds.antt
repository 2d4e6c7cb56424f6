-- The white space at the end of a line.
use Rattle.std.proofs.Common.{◌≡◌, ℕ, List, [], ◌∷◌, ◌++◌, true, false, refl, sym, ap, ◌∙◌}
use Rattle.std.specs.Prelude.{reverse}
use Rattle.std.proofs.lemmas.List.{reverse-append, reverse-reverse}
use Rattle.frame_texts.specs.Boxes.{without_white, ended}
use Rattle.frame_texts.specs.Lines.{is_white}

passed : (b : ℕ) (bs : List ℕ) → is_white b ≡ true → without_white (b ∷ bs) ≡ without_white bs
passed b bs e = rw e refl

stopped : (b : ℕ) (bs : List ℕ) → is_white b ≡ false → without_white (b ∷ bs) ≡ b ∷ bs
stopped b bs e = rw e refl

pub white_end : (xs : List ℕ) (b : ℕ) → is_white b ≡ true → ended (xs ++ b ∷ []) ≡ ended xs
white_end xs b e = ap reverse (ap without_white (reverse-append xs (b ∷ [])) ∙ passed b (reverse xs) e)

pub other_end : (xs : List ℕ) (b : ℕ) → is_white b ≡ false → ended (xs ++ b ∷ []) ≡ xs ++ b ∷ []
other_end xs b e = ap reverse (ap without_white (reverse-append xs (b ∷ [])) ∙ stopped b (reverse xs) e ∙ sym (reverse-append xs (b ∷ []))) ∙ reverse-reverse (xs ++ b ∷ [])
