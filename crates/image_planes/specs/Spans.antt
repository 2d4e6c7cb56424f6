-- Spans of frames, one for each block of steps.
use Rattle.std.specs.Prelude.{◌&&◌, ◌==◌, ℕ, Bool, nat_le, nat_lt, List, [], ◌∷◌, length, take, drop}
use Rattle.std.specs.List.{list_all}
use Rattle.image_planes.specs.declared.change.Step.{Step}
use Rattle.image_planes.specs.declared.spans.Span.{Span}

-- whether a span has the frame of this number
abbrev pub has : Span → ℕ → Bool
has span number = nat_le span.first number && nat_lt number span.end

-- whether it has all frames of each of these steps
abbrev pub has_all : Span → List (Step (List ℕ)) → Bool
has_all span steps = list_all (λ s. nat_le span.first s.first && nat_le s.end span.end) steps

-- whether these are spans of the blocks of steps, one after the other: a block has so many steps, and the last one what is left
abbrev pub are_spans_by : ℕ → List Span → List (Step (List ℕ)) → Bool
are_spans_by many [] steps = length steps == 0
are_spans_by many (span ∷ spans) steps = has_all span (take many steps) && are_spans_by many spans (drop many steps)

-- the same of blocks of 64 steps, and of groups of 64 blocks
abbrev pub are_spans : List Span → List (Step (List ℕ)) → Bool
are_spans spans steps = are_spans_by 64 spans steps

abbrev pub are_groups : List Span → List (Step (List ℕ)) → Bool
are_groups spans steps = are_spans_by 4096 spans steps
