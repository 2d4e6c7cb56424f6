-- The final value of one name by that of another.
use Rattle.std.specs.Borrow.{GName, Fml, RattleType}
use base.Fml.{fres, fall, fwand}

-- who learns the last value of the second name also learns that of the first
abbrev pub ends_as : (R S : RattleType) → GName → GName → (S.Denot → R.Denot) → Fml
ends_as R S γ δ F = fall S.Denot (λ w. fwand (fres δ (S.coded.code w)) (fres γ (R.coded.code (F w))))
