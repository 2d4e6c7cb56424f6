use Rattle.std.proofs.Common.{◌≡◌, All, take, true}
use Rattle.frame_formats.specs.Suits.{suits_planes}
use Rattle.frame_formats.proofs.suits.find_bad.Given as goal

-- each edit so far is one of the frame
abbrev pub invariant-loop-at : goal.invariant-loop-at
invariant-loop-at l = All (λ e. suits_planes l.frame.unit l.frame.rate l.frame.pixel l.frame.layers.now l.frame.width l.frame.height e ≡ true) (take l.at l.edits)
