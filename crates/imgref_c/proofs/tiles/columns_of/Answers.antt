-- The tile is in that column and line.
use Rattle.std.proofs.Common.{sym, subst, ℕ}
use Rattle.imgref_c.specs.Numbering.{Numbered}
use Rattle.imgref_c.proofs.Numbering.{numbered}
use Rattle.imgref_c.proofs.tiles.columns_of.Goals as goal

pub returns : goal.returns
returns c =
    let a = c.args in
    let r = c.requires in
    let stands : ℕ → Type 0 = λ columns. Numbered a.width a.height a.tile_width a.tile_height a.number columns in
    subst stands (sym c.tiles_along.ensures.value) (numbered a.width a.height a.tile_width a.tile_height a.number r.tile_width r.tile_height r.below)
