-- The pixels before this one are done, and the sums are those of the boxes around the last of them.
use Rattle.std.proofs.Common.{◌≡◌, ◌/◌, length}
use Rattle.image_means.specs.Blur.{whole_count, AreSumsBefore, BlursSpan}
use Rattle.image_means.proofs.blur.blur_whole.Given as goal

abbrev pub invariant-loop-p : goal.invariant-loop-p
invariant-loop-p g l = record {
  as_many : length l.numbers ≡ g.row.N;
  sums : AreSumsBefore l.place l.sums l.p (whole_count l.place / 2) g.row.N l.numbers;
  means : BlursSpan l.place g.row.N l.sums l.fn.pixels.start l.p l.fn.row l.row;
}
