-- Covers of a tracker's list come from boxes.
use Rattle.std.proofs.Common.{◌<◌, ℕ, List, [], ◌∷◌, Option, Some, None, length, arith}
use Rattle.std.proofs.lemmas.List.{length-map}
use Rattle.std.proofs.lemmas.List.Sorted.{length_permutation}
use Rattle.frame_texts.specs.Boxes.{HasBoxes}
use Rattle.frame_texts.specs.declared.boxes.Tracked.{Tracked}
use Rattle.frame_edits.specs.BoxCovers.{cover_of}
use Rattle.frame_edits.specs.Holds.{held}
use Rattle.frame_edits.specs.declared.box_covers.BoxStyle.{BoxStyle}
use Rattle.frame_edits.specs.declared.words.Edit.{Edit}
use Rattle.frame_requests.specs.Boxes.{CoverBoxes}

some_held : (style : BoxStyle) (hold : ℕ) (boxes : List Tracked) → 0 < length (held style hold boxes) → 0 < length boxes
some_held style hold [] some = absurd (omega (arith, some))
some_held style hold (b ∷ bs) some = omega arith

pub covers_have_boxes : (style : BoxStyle) (text : List ℕ) (hold : Option ℕ) (covers : List Edit) → CoverBoxes style text hold covers → 0 < length covers → HasBoxes text
covers_have_boxes style text None covers are some =
    record { boxes = are.read; are = are.are; some = omega (arith, some, length_permutation _ _ are.same, length-map are.read (cover_of style)) }
covers_have_boxes style text (Some hold) covers are some =
    record { boxes = are.read; are = are.are; some = omega (arith, length_permutation _ _ are.same, some_held style hold are.tracked (omega (arith, some, length_permutation _ _ are.held))) }
