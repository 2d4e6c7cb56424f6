use Rattle.imgref.specs.Words.{Fits, SameOutside, grid_of, shaped}
use Rattle.image_regions.specs.Runs.{FillsRun}
use Rattle.image_regions.proofs.labels.fill_run.Given as goal

abbrev pub invariant-loop-column : goal.invariant-loop-column
invariant-loop-column l = Fits (shaped l.labels l.shape) × SameOutside (shaped l.fn.labels l.shape) (shaped l.labels l.shape) × FillsRun l.label l.run.y l.run.from l.column (grid_of (shaped l.fn.labels l.shape)) (grid_of (shaped l.labels l.shape))
