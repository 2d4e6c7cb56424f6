-- One pixel more.
use Rattle.std.proofs.Common.{◌∷◌, sym, ap, ◌∙◌, arith, length-set}
use Rattle.imgref.specs.Pixels.{copies_left}
use Rattle.imgref.specs.Words.{counted}
use Rattle.image_model.proofs.Counts.{counted_more}
use Rattle.image_regions.proofs.counting.count_words.Goals as goal

pub loop-word-preserved : goal.loop-word-preserved
loop-word-preserved c =
    let ys = copies_left c.next.new.self in
    let split = c.in-Some.ensures.steps ∙ ap (λ n. n ∷ ys) (sym c.from.ensures) in
    (tt, tt, length-set _ _ _ ∙ c.loop-word.invariant.2, counted_more c.args.values c.loop-word.counts c.from.result ys (omega arith) ∙ sym (ap (counted c.args.values c.loop-word.counts) split) ∙ c.loop-word.invariant.3)
