use Rattle.std.proofs.Common.{◌∙◌, ap, arith, unwrap_or}
use Rattle.image_model.proofs.Sums.{sum_fits}
use Rattle.imgref.specs.Words.{ref_grid, shaped}
use Rattle.image_regions.proofs.areas.sum_areas.Goals as goal

pub overflow_add-sum : goal.overflow_add-sum
overflow_add-sum c = record {
  fits = sum_fits (ref_grid c.args.image) (shaped c.args.cells.now c.args.shape) (shaped c.loop-x.cells c.args.shape) _ _ c.loop-x.x c.loop-y.y _ _ _ c.requires.below c.requires.width c.requires.height c.requires.small
      c.loop-x.invariant.2 (omega arith) (omega arith) c.above.ensures c.loop-x.invariant.3 (c.from-line.ensures ∙ c.unwrap_or.ensures ∙ ap (λ o. unwrap_or o 0) c.get.ensures.pixel);
}
