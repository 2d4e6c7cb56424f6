-- One pixel more.
use Rattle.std.proofs.Common.{◌∷◌, sym, ap, ◌∙◌, arith, length-set}
use Rattle.imgref.specs.Pixels.{copies_left}
use Rattle.imgref.specs.Words.{counted}
use Rattle.image_model.proofs.Counts.{counted_more}
use Rattle.image_regions.proofs.counting.histogram.Goals as goal

pub loop-pixel-preserved : goal.loop-pixel-preserved
loop-pixel-preserved c =
    let ys = copies_left c.next.new.self in
    let split = c.in-Some.ensures.steps ∙ ap (λ n. n ∷ ys) (sym c.from.ensures) in
    (tt, tt, length-set _ _ _ ∙ c.loop-pixel.invariant.2, counted_more 256 c.loop-pixel.counts c.from.result ys (omega arith) ∙ sym (ap (counted 256 c.loop-pixel.counts) split) ∙ c.loop-pixel.invariant.3)
