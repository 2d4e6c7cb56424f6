-- Edits of a video or of a picture.
use Rattle.std.specs.Prelude.{List, Option}
use Rattle.frame_edits.specs.declared.framing.Framing.{Framing}
use Rattle.frame_edits.specs.declared.words.Edit.{Edit}

-- edits of pixels in their order, and then a window that is kept or a border, or neither
pub record Edits : Type 0 where
  pub steps : List Edit
  pub framing : Option Framing

abbrev pub edits : List Edit → Option Framing → Edits
edits steps framing = record { steps = steps; framing = framing }
