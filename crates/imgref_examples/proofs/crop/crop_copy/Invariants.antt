use Rattle.std.proofs.Common.{◌≡◌, ◌++◌}
use Rattle.std.specs.List.{flat_map}
use Rattle.imgref.specs.Rows.{refs_left}
use Rattle.imgref.specs.Words.{grid_pixels, as_window, window_view, ref_grid}
use Rattle.imgref_examples.proofs.crop.crop_copy.Given as goal

abbrev pub invariant-loop-row : goal.invariant-loop-row
invariant-loop-row l =
    (goal.iterator-loop-row).can_next l.row-iterator ×
    (goal.iterator-loop-row).is_finite l.row-iterator ×
    (l.cells.items ++ flat_map (λ r. r) (refs_left l.row-iterator) ≡ grid_pixels (window_view (ref_grid l.fn.image) (as_window l.fn.window)))
