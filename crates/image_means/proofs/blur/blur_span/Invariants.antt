-- The pixels before this one are done, and the sums are those of the boxes around the last of them.
use Rattle.std.proofs.Common.{◌≡◌, length}
use Rattle.image_means.specs.Blur.{AreSumsBefore, BlursSpan}
use Rattle.image_means.proofs.blur.blur_span.Given as goal

abbrev pub invariant-loop-p : goal.invariant-loop-p
invariant-loop-p l = record {
  as_many : length l.totals ≡ length l.fn.totals;
  sums : AreSumsBefore l.place l.sums l.p 0 (length l.fn.totals) l.totals;
  means : BlursSpan l.place (length l.fn.totals) l.sums l.fn.pixels.start l.p l.fn.row l.row;
}
