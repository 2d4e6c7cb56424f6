-- What proofs by hand read of a function's code: its type arguments, the first arm of a switch, and the type of a local.
use Rattle.std.proofs.Common.{ℕ, zero, suc, List, [], ◌∷◌}
use mir.Syntax.{Args, Dict, Body, Local, Ty, local, ty_unit, a_type, dcons, dnil, skip, seq, switch, arm}
use denote.Param.{layouts, bounded}
use denote.RattleType.{RattleType}

-- the arguments of a function with one type parameter
abbrev pub of_one : RattleType → Args
of_one T = layouts (a_type ∷ []) (T, tt)

-- those of a function over a container that is written and its cells: the traits of the container are d and ds
abbrev pub of_container : RattleType → RattleType → Dict → Dict → Args
of_container X Y d ds = bounded (a_type ∷ a_type ∷ []) (X, (Y, tt)) (dcons d (dcons ds dnil))

-- and where the cells are copied, by dc
abbrev pub of_copied : RattleType → RattleType → Dict → Dict → Dict → Args
of_copied X Y d ds dc = bounded (a_type ∷ a_type ∷ []) (X, (Y, tt)) (dcons d (dcons ds (dcons dc dnil)))

-- the first arm of a switch
abbrev pub first_arm : Body → Body
first_arm (seq (switch c (arm ks b others)) rest) = b
first_arm _ = skip

-- the type of a local
abbrev pub type_of : ℕ → List Local → Ty
type_of n [] = ty_unit
type_of zero (local ty kind ∷ others) = ty
type_of (suc n) (one ∷ others) = type_of n others
