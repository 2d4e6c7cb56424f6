-- The samples at the places before this group's are means.
use Rattle.std.proofs.Common.{◌≡◌, ◌<◌, ◌+◌, ◌*◌, ℕ, length, Some}
use Rattle.std.specs.List.{slice_get}
use Rattle.image_means.specs.Blur.{sums_mean}
use Rattle.image_means.specs.Means.{sample_cells, cell_number}
use Rattle.image_means.proofs.blur.blur_places.Given as goal

abbrev pub invariant-loop-group : goal.invariant-loop-group
invariant-loop-group g l = record {
  many : length l.row ≡ length l.fn.row;
  means : (q a c : ℕ) → a < l.group * g.row.N → q * l.blur.per + a < length l.sums → c < sample_cells l.blur.bytes
      → slice_get l.row ((q * l.blur.per + a) * sample_cells l.blur.bytes + c) ≡ Some (cell_number l.blur.bytes c (sums_mean l.sums l.blur.per l.blur.across l.lines q a));
}
