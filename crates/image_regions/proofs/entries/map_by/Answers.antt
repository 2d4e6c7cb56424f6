-- What the zip leaves, by the entry of each value.
use Rattle.std.proofs.Common.{slice_index_or}
use Rattle.imgref.specs.Words.{ref_layout}
use Rattle.image_regions.proofs.ByTable.{zip_maps}
use Rattle.image_regions.proofs.entries.map_by.Goals as goal

pub returns-clause-grid : goal.returns-clause-grid
returns-clause-grid g c = λ other. let first = slice_index_or c.args.table.now 0 c.index-table-0.result in
    zip_maps _ _ _ (ref_layout c.args.image) (λ v. slice_index_or c.args.table.now v other) first _ _ c.zip_pixels.ensures.grid (λ p q r a. a other)
    (c.in_ok-made.ensures.grid (λ _ _. first) (λ x y q _ _ a. a)) c.width.ensures.value c.height.ensures.value
