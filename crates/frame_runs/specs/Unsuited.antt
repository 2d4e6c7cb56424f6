-- What isn't one of a frame of a shape.
use Rattle.std.specs.Prelude.{Option}
use Rattle.frame_edits.specs.Edits.{Edits}
use Rattle.frame_formats.specs.Suits.{TellsBad, size_suits_picture, size_suits_video, suits_picture, suits_video}
use Rattle.frame_edits.specs.declared.unsuited.Unsuited.{Unsuited}
use Rattle.frame_requests.specs.declared.seen.Shape.{Shape}
use Rattle.frame_requests.specs.declared.seen.Shape.TheVariants.{Video, Picture}

-- the first edit that isn't one of such a frame, or what becomes of its size
abbrev pub TellsBadOf : Shape → Edits → Option Unsuited → Type 0
TellsBadOf (Video format rate) e bad = TellsBad (suits_video format rate) (size_suits_video format e.framing) e.steps bad
TellsBadOf (Picture picture) e bad = TellsBad (suits_picture picture) (size_suits_picture picture e.framing) e.steps bad
