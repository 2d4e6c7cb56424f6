-- One value in as many first pixels as there are is that value everywhere.
use Rattle.std.proofs.Common.{◌≡◌, ◌+◌, ◌*◌, ◌<◌, ◌≤◌, Some, arith, nat_lt}
use Rattle.std.proofs.Math.Nat.{mul-le-mul_right}
use Rattle.std.proofs.lemmas.Bool.{cond-true, lt-ltb}
use Rattle.image_model.specs.Layout.{Layout}
use Rattle.image_model.specs.Grid.{grid_of, uniform}
use Rattle.image_model.proofs.Grids.{same_grids}
use Rattle.imgref_examples.specs.Pixels.{with_first}

pub all_of_them : {T : Type 0} (l : Layout T) (value : T) → with_first (grid_of l) (l.width * l.height) value ≡ uniform l.width l.height value
unfolding grid_of uniform
all_of_them l value = same_grids l.width l.height _ (λ _ _. Some value) (λ x y column line.
    let high : y + 1 ≤ l.height = omega (arith, line) in
    let first : y * l.width + x < l.width * l.height = omega (arith, mul-le-mul_right l.width high, column) in
    cond-true (nat_lt (y * l.width + x) (l.width * l.height)) (Some value) _ (lt-ltb (y * l.width + x) (l.width * l.height) first))
