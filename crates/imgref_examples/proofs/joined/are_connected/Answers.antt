use Rattle.image_model.proofs.Regions.{label_tells}
use Rattle.imgref.specs.Words.{ref_layout, vec_layout}
use Rattle.imgref_examples.proofs.joined.are_connected.Goals as goal

pub returns : goal.returns
returns c =
    let it = c.in_ok-regions in
    label_tells (ref_layout c.args.image) (vec_layout it.regions.labels) it.regions.count _ _ _ _ _ _ it.ensures.regions c.requires.column c.requires.row c.requires.other_column c.requires.other_row c.index.ensures c.index-2.ensures
