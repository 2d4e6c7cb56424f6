-- Edits that come too late to hide what an earlier one of the same frames may show.
use Rattle.std.specs.Prelude.{ℕ, ◌&&◌, Bool, true, not, nat_lt, List, [], ◌∷◌, Option, Some, None}
use Rattle.std.specs.List.{list_any}
use Rattle.image_commands.specs.Changes.{fills, spreads}
use Rattle.frame_texts.specs.declared.ranges.Range.{Range}
use Rattle.frame_texts.specs.declared.ranges.Range.TheVariants.{Frames, Times}
use Rattle.frame_edits.specs.declared.words.Edit.{Edit}

abbrev pub ends_after : ℕ → Option ℕ → Bool
ends_after time None = true
ends_after time (Some end) = nat_lt time end

-- ranges that may have a frame in common: numbers of frames and times may
abbrev pub may_meet : Range → Range → Bool
may_meet (Frames first end) (Frames start stop) = nat_lt first stop && nat_lt start end
may_meet (Frames first end) (Times start stop) = true
may_meet (Times from to) (Frames start stop) = true
may_meet (Times from to) (Times start stop) = ends_after from stop && ends_after start to

-- a cover or a fill, after a move, a mosaic, means or a blur, where both may be for one frame
abbrev pub fills_late : Edit → Edit → Bool
fills_late before edit = (spreads before.change && fills edit.change) && may_meet before.range edit.range

-- no cover and no fill comes so after an edit before it, whatever comes between them
abbrev pub covers_first : List Edit → Bool
covers_first [] = true
covers_first (e ∷ es) = not (list_any (λ later. fills_late e later) es) && covers_first es
