use Rattle.std.proofs.Common.{◌≡◌, drop}
use Rattle.std.specs.List.{list_all}
use Rattle.std.specs.Option.{is_some}
use Rattle.frame_formats.specs.Layers.{resizing_on}
use Rattle.frame_formats.specs.Suits.{size_suits}
use Rattle.frame_formats.proofs.suits.size_suits.Given as goal

-- the planes that are left decide
abbrev pub invariant-loop-layer : goal.invariant-loop-layer
invariant-loop-layer l =
    list_all (λ layer. is_some (resizing_on l.frame.pixel layer l.width l.height l.resize)) (drop l.layer-index l.layer-items)
    ≡ size_suits l.upright l.frame.pixel l.frame.layers.now l.width l.height l.fn.framing
