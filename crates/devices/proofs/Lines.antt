-- Bytes in which there is no line.
use Rattle.std.proofs.Common.{◌≡◌, ◌≢◌, ℕ, ◌<◌, ◌⊎◌, List, ◌∷◌, ◌++◌, Option, Some, None, length, sym, ap, ◌∙◌, arith, inl, inr, length-append, IfSome, All}
use Rattle.std.specs.Io.KnownBytes.{Consumes, IsAtEnd}
use Rattle.std.specs.List.{AllByRecursion}
use Rattle.std.proofs.lemmas.List.Elements.{recursion_from_All}
use Rattle.devices.specs.Whole.{IsNoLine}

no_feed : (xs rest line more : List ℕ) → AllByRecursion (λ b. b ≢ 10) xs → xs ++ rest ≡ line ++ 10 ∷ more → length line < length xs → ⊥
no_feed (x ∷ xs) rest (y ∷ line) more all is short = no_feed xs rest line more all.1 (cc) (omega arith)
no_feed _ rest _ more all is short = grind arith

-- bytes with no line feed, as many as there may be or up to the end, are no line
pub no_line : (count : ℕ) (input left : Option (List ℕ)) (xs : List ℕ) → Consumes input left xs → All (λ b. b ≢ 10) xs → (length xs ≡ count) ⊎ IsAtEnd left → IfSome input (IsNoLine count)
no_line count None left xs read all end = tt
no_line count (Some bytes) None xs read all end = absurd read
no_line count (Some bytes) (Some rest) xs read all (inl long) = λ line more short is. no_feed xs rest line more (recursion_from_All _ xs all) (sym read ∙ is) (omega arith)
no_line count (Some bytes) (Some rest) xs read all (inr end) = λ line more short is.
    let same : xs ++ rest ≡ line ++ 10 ∷ more = sym read ∙ is in
    no_feed xs rest line more (recursion_from_All _ xs all) same (omega (arith, ap length same, ap length end, length-append xs rest, length-append line (10 ∷ more)))
