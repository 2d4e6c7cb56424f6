use Rattle.std.proofs.Common.{◌≡◌}
use Rattle.imgref.specs.Shape.{shape_width, shape_height, shape_stride}
use Rattle.imgref.specs.Window.{as_stretch}
use Rattle.imgref_replay.proofs.Regions.{IsOnWay}
use Rattle.imgref_replay.proofs.path.region_at.Given as goal

abbrev pub invariant-loop-index : goal.invariant-loop-index
invariant-loop-index l =
    let whole = l.initial.inner in
    IsOnWay (shape_stride whole) l.initial.stretch.len (shape_width whole) (shape_height whole) l.path l.index (as_stretch l.stretch) (shape_width l.inner) (shape_height l.inner)
    × (shape_stride l.inner ≡ shape_stride whole)
