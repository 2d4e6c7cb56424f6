use Rattle.std.proofs.Common.{◌≡◌, drop}
use Rattle.std.specs.List.{list_all}
use Rattle.frame_formats.specs.Steps.{step_in}
use Rattle.frame_formats.specs.Suits.{suits_plane, suits_planes}
use Rattle.frame_formats.proofs.suits.suits_planes.Given as goal

-- the planes that are left decide
abbrev pub invariant-loop-layer : goal.invariant-loop-layer
invariant-loop-layer l =
    list_all (λ layer. suits_plane l.frame.pixel layer l.frame.width l.frame.height (step_in l.frame.unit l.frame.rate l.frame.width l.frame.height l.edit)) (drop l.layer-index l.layer-items)
    ≡ suits_planes l.frame.unit l.frame.rate l.frame.pixel l.frame.layers.now l.frame.width l.frame.height l.edit
