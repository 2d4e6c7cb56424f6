use Rattle.std.proofs.Common.{◌≡◌}
use Rattle.imgref.specs.Words.{Fits, SameOutside, flipped_upto, grid_by, layout_by}
use Rattle.imgref_examples.proofs.kinds.flip_any.Given as goal

abbrev pub invariant-loop-y : goal.invariant-loop-y
invariant-loop-y g l =
    let layout_of = layout_by g.C.AsSlice.cells in
    Fits (layout_of l.image) × SameOutside (layout_of l.fn.image) (layout_of l.image) × (grid_by g.C.AsSlice.cells l.image ≡ flipped_upto l.y (grid_by g.C.AsSlice.cells l.fn.image))
