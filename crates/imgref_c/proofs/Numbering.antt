-- How many tiles a size has, and which has a number.
use Rattle.std.proofs.Common.{◌≡◌, ℕ, ◌*◌, ◌^◌, ◌<◌, ◌≤◌, length, Some, ap, ◌∙◌, arith, get_or}
use Rattle.std.proofs.Math.Nat.{mul-le-mul}
use Rattle.std.proofs.lemmas.Option.{slice_get-get_or}
use Rattle.image_model.specs.Windows.{Window}
use Rattle.image_model.specs.Tiles.{tiles, tile, tile_count}
use Rattle.imgref_c.specs.Numbering.{Numbered}
use Rattle.image_model.proofs.Tiles.{length-tiles, tile_begins, tile_number}

-- the number of tiles of an image fits
pub count_fits : (lines columns : ℕ) → lines < 2 ^ 32 → columns < 2 ^ 32 → lines * columns < 2 ^ 64
count_fits lines columns low narrow =
    let few : lines ≤ 4294967295 = omega (arith, low) in
    let short : columns ≤ 4294967295 = omega (arith, narrow) in
    omega (arith, mul-le-mul few short)

-- the tiles of a size are those of its lines
pub counted : (width height tile_width tile_height : ℕ) → 0 < tile_width → 0 < tile_height
    → length (tiles width height tile_width tile_height) ≡ tile_count tile_height height * tile_count tile_width width
counted width height tile_width tile_height wide high = length-tiles width height tile_width tile_height wide high

-- where it is
pub numbered : (width height tile_width tile_height number : ℕ) → 0 < tile_width → 0 < tile_height → number < length (tiles width height tile_width tile_height)
    → Numbered width height tile_width tile_height number (tile_count tile_width width)
numbered width height tile_width tile_height number wide high below =
    let all = tiles width height tile_width tile_height in
    let none : Window = tile width height tile_width tile_height 0 0 in
    let w : Window = get_or all number none in
    let is = slice_get-get_or all number none below in
    let found = tile_number width height tile_width tile_height wide high number w is in
    record {
      some = omega (arith, found.0);
      column = tile_begins tile_width width _ wide found.0;
      line = tile_begins tile_height height _ high found.1;
      is = is ∙ ap Some found.2;
    }
