-- What holds of a fault holds of a result that hands it on, as `?` does.
use Rattle.std.proofs.Common.{◌≡◌, Result, Ok, Err, IsErr, IsErrAnd, sym, subst}

pub handed_on : {T E : Type 0} (P : Result T E → Type 0) (r : Result T E) (e : E) → IsErr r × IsErrAnd r (λ f. f ≡ e) → P (Err e) → P r
handed_on P (Ok x) e h p = absurd h.1
handed_on P (Err f) e h p = subst (λ x. P (Err x)) (sym h.1) p
