-- Whether parts are left.
use Rattle.std.proofs.Common.{◌≡◌, ℕ, Bool, false, not, eqb, IsTrue, List, [], Option, Some, arith}
use Rattle.std.specs.Option.{is_some}
use Rattle.std.specs.Borrow.{Bor}
use Rattle.texts.specs.Parts.{parts_left_of}
use Rattle.texts.proofs.PartsCut.{split_nonempty}

pub is_done_tells : (separator : ℕ) (rest : Option (Bor (List ℕ))) (b : Bool) → is_some rest ≡ not b
    → (IsTrue b → parts_left_of separator rest ≡ []) × (parts_left_of separator rest ≡ [] → IsTrue b)
is_done_tells separator (Some r) false e = (λ t. absurd cc, λ none. absurd (split_nonempty (λ b. eqb b separator) r.now none))
is_done_tells separator _ _ e = grind arith
