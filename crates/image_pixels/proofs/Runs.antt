-- What runs of calls of `next` give, for the pixel cursors.
use Rattle.std.proofs.Common.{ap, length}
use Rattle.std.specs.Iterator.{YieldsFirst, YieldsFirstRef}
use Rattle.std.specs.Iterator.Runs.{YieldsInOrder, YieldsRefsInOrder}
use Rattle.std.proofs.iter.runs.Sources.{from_front, as_is}
use Rattle.image_pixels.specs.Pixels.{refs_left, copies_left}

module _ {T : Type 0} where
  -- the items are the pixels that were left, in order
  pub refs_run : YieldsRefsInOrder (YieldsFirstRef (refs_left {T = T})) refs_left
  refs_run p s = from_front (YieldsFirstRef (refs_left {T = T})) (λ x. x.now) refs_left (λ s t h. ap length h.0) (λ s x t h. h) p s

  pub copies_run : YieldsInOrder (YieldsFirst (copies_left {T = T})) copies_left
  copies_run p s = as_is p (copies_left p.from) (from_front (YieldsFirst (copies_left {T = T})) (λ x. x) copies_left (λ s t h. ap length h.0) (λ s x t h. h) p s)
