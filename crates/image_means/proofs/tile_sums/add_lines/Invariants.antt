-- The sums of the lines so far.
use Rattle.std.proofs.Common.{◌≡◌, length}
use Rattle.image_means.specs.LineSums.{AreLineSums}
use Rattle.image_means.proofs.tile_sums.add_lines.Given as goal

abbrev pub invariant-loop-line : goal.invariant-loop-line
invariant-loop-line g l = record {
  as_many : length l.sums ≡ length l.fn.sums;
  sums : AreLineSums g.T.Sample.number g.C.Tally.tally g.T.Sample.greatest l.cells l.lines.first.start l.lines.stride l.line l.sums;
}
