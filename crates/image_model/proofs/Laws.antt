-- The laws for a caller's `using`: one set for reads, one for writes and one for loops. Each file has smaller sets.
use Rattle.image_model.proofs.Flips.{flips}
use Rattle.image_model.proofs.Folds.{folds}
use Rattle.image_model.proofs.MappedRows.{mapped_rows}
use Rattle.image_model.proofs.Patches.{patches, at_places}
use Rattle.image_model.proofs.Puts.{put_cases, one_fewer}
use Rattle.image_model.proofs.Reading.{reading}
use Rattle.image_model.proofs.Sweeps.{sweeps, map_sweeps}

-- what a place shows, also after writes
pub ruleset reads = (reading, at_places)

-- what is written where an edge cuts it, and by one put
pub ruleset writes = (patches, put_cases, one_fewer)

-- loops over places and over rows
pub ruleset loops = (sweeps, map_sweeps, mapped_rows, flips, folds)
