-- What a test of a number tells in a walk.
use Rattle.std.proofs.Common.{ℕ, zero, suc, ◌<◌, arith, T, T_not, nat_eq as eqb, not}
use lib.Dec.{eqb_refl}

-- a number that isn't 0 is at least 1
pub one_at_least : (n : ℕ) → T (not (eqb n 0)) → 0 < n
one_at_least zero t = absurd (T_not (eqb 0 0) t (eqb_refl 0))
one_at_least (suc n) t = omega arith
