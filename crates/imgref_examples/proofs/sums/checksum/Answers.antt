-- The sum is taken modulo 2^64 at each pixel.
use Rattle.std.proofs.Common.{rules, ◌≡◌, ◌+◌, ◌%◌, ◌^◌, ◌∙◌, sum, arith}
use Rattle.std.specs.List.{fold}
use Rattle.imgref.specs.Words.{grid_pixels, ref_grid}
use Rattle.imgref_examples.proofs.WrappedSums.{wrapped, wrapped_sum}
use Rattle.imgref_examples.proofs.sums.checksum.Goals as goal

pub returns : goal.returns
returns c =
    let pixels = grid_pixels (ref_grid c.args.image) in
    let folded : c.fold.result ≡ fold wrapped 0 pixels = search rules in
    folded ∙ wrapped_sum pixels 0 (omega arith) ∙ (let whole : (0 + sum pixels) % 2 ^ 64 ≡ sum pixels % 2 ^ 64 = omega arith in whole)
