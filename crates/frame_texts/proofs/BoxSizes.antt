-- The sizes of boxes.
use Rattle.std.proofs.Common.{List, All, get_or, arith}
use Rattle.frame_texts.specs.Boxes.{IsDecimal, IsBox}
use Rattle.frame_texts.specs.declared.boxes.Decimal.{Decimal}
use Rattle.frame_texts.specs.declared.boxes.Tracked.{Tracked}

-- a box of a line is no larger than one around two
is_extent : (d : Decimal) → IsDecimal 32 d → IsDecimal 34 d
is_extent d h = record { whole = omega (arith, h.whole); part = h.part }

pub is_box : (b : Tracked) → IsBox 32 b → IsBox 34 b
is_box b h = record { left = h.left; top = h.top; width = is_extent b.width h.width; height = is_extent b.height h.height }

pub are_boxes : (bs : List Tracked) → All (IsBox 32) bs → All (IsBox 34) bs
are_boxes bs are i d within = is_box (get_or bs i d) (are i d within)
