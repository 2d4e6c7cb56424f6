use Rattle.std.proofs.Common.{◌≡◌, ◌≤◌, ◌+◌, ◌*◌, length}
use Rattle.image_model.specs.Regions.{AreDone, Labelled}
use Rattle.imgref.specs.Words.{Fits, SameOutside, grid_of, ref_grid, shaped, width_of}
use Rattle.image_regions.proofs.labels.label_all.Given as goal

abbrev pub invariant-loop-y : goal.invariant-loop-y
invariant-loop-y g l = Fits (shaped l.labels l.shape) × SameOutside (shaped l.fn.labels l.shape) (shaped l.labels l.shape)
    × Labelled (ref_grid l.fn.image) (grid_of (shaped l.labels l.shape)) l.regions
    × AreDone (grid_of (shaped l.labels l.shape)) (width_of l.fn.image) 0 l.y
    × (l.regions ≤ l.y * width_of l.fn.image) × (length l.room ≡ length l.fn.room)

abbrev pub invariant-loop-x : goal.invariant-loop-x
invariant-loop-x g l = Fits (shaped l.labels l.shape) × SameOutside (shaped l.fn.labels l.shape) (shaped l.labels l.shape)
    × Labelled (ref_grid l.fn.image) (grid_of (shaped l.labels l.shape)) l.regions
    × AreDone (grid_of (shaped l.labels l.shape)) (width_of l.fn.image) l.x l.y
    × (l.regions ≤ l.y * width_of l.fn.image + l.x) × (length l.room ≡ length l.fn.room)
