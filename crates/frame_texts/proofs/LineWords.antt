-- The words of a line.
use Rattle.std.proofs.Common.{◌≡◌, ◌≢◌, ℕ, List, [], ◌∷◌, ◌++◌, length, length-append, ap, subst, arith}

-- there is a word after others
pub word_there : (front : List (List ℕ)) (word : List ℕ) (rest total : List (List ℕ)) → front ++ word ∷ rest ≡ total → total ≢ []
word_there front word rest total is = subst (λ (l : List (List ℕ)). l ≢ []) is (λ none. omega (arith, ap length none, length-append front (word ∷ rest)))
