-- One more than the tiles that end before the last place.
use Rattle.std.proofs.Common.{◌≡◌, ℕ, ◌+◌, ◌-◌, ◌/◌, ◌<◌, arith}
use Rattle.std.proofs.lemmas.Bool.Decides.{nat_tests}
use Rattle.std.proofs.lemmas.Nat.{div-add-mod', mod_below, div-mul-add}
use Rattle.std.proofs.Math.Nat.{suc-mul}
use Rattle.image_model.specs.Tiles.{tile_count}
use Rattle.image_shape.proofs.tiles.tiles_along.Goals as goal

-- as many tiles as end before the last place, and one
along : (len tile : ℕ) → 0 < len → 0 < tile → (len - 1) / tile + 1 ≡ tile_count tile len
along len tile some_len some = grind (arith, div-add-mod', mod_below, suc-mul, div-mul-add)

pub returns-else-len-eq0-clause-value : goal.returns-else-len-eq0-clause-value
returns-else-len-eq0-clause-value c = along c.args.len c.args.tile (grind (arith, nat_tests, c.if-len-eq0.false)) c.requires
