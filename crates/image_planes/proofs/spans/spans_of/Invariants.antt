use Rattle.std.proofs.Common.{◌≡◌, true, List, ◌++◌, length}
use Rattle.image_planes.specs.Spans.{are_spans_by}
use Rattle.image_planes.specs.declared.spans.Span.{Span}
use Rattle.image_planes.proofs.spans.spans_of.Given as goal

-- with the spans of the steps that are left they are those of all
abbrev pub invariant-loop-left : goal.invariant-loop-left
invariant-loop-left l = (rest : List Span) → are_spans_by l.many rest l.left ≡ true → are_spans_by l.many (l.spans.items ++ rest) l.steps ≡ true

abbrev pub decreases-loop-left : goal.decreases-loop-left
decreases-loop-left l = length l.left
