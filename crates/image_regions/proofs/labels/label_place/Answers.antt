use Rattle.std.proofs.Common.{◌≡◌, ◌+◌, Some, refl, ap, ◌∙◌, arith}
use Rattle.image_model.proofs.Reading.{pixel_read}
use Rattle.image_model.proofs.Regions.{open_is, step_labels, step_stays}
use Rattle.imgref.specs.Words.{grid_of, ref_grid, ref_layout, shaped}
use Rattle.image_regions.proofs.labels.label_place.Goals as goal

pub returns-then-at-ne0-clause-step : goal.returns-then-at-ne0-clause-step
returns-then-at-ne0-clause-step g c =
    let a = c.args in
    step_stays g.T.PartialEq.eq c.requires.tells (ref_layout a.image) (grid_of (shaped a.labels.now a.shape)) a.place.0 a.place.1 a.regions c.at.result c.at.ensures.pixel (λ e. omega (arith, e, c.if-at-ne0.true))

pub label_region-requires-clause-clear : goal.label_region-requires-clause-clear
label_region-requires-clause-clear g c =
    let a = c.args in
    let seed = c.index.result.now in
    let free : (grid_of (shaped a.labels.now a.shape)).pixel a.place.0 a.place.1 ≡ Some 0 = c.at.ensures.pixel ∙ ap Some (omega (arith, c.if-at-ne0.false)) in
    let shows = pixel_read (ref_layout a.image) a.place.0 a.place.1 _ c.requires.column c.requires.row c.index.ensures in
    open_is (λ p. g.T.PartialEq.eq p seed) (ref_grid a.image) (shaped a.labels.now a.shape) a.place.0 a.place.1 seed free shows ((c.requires.tells seed seed).1 refl)

pub returns-clause-step : goal.returns-clause-step
returns-clause-step g c =
    let a = c.args in
    let free : (grid_of (shaped a.labels.now a.shape)).pixel a.place.0 a.place.1 ≡ Some 0 = c.at.ensures.pixel ∙ ap Some (omega (arith, c.if-at-ne0.false)) in
    let shows = pixel_read (ref_layout a.image) a.place.0 a.place.1 _ c.requires.column c.requires.row c.index.ensures in
    step_labels g.T.PartialEq.eq c.requires.tells (ref_layout a.image) (shaped a.labels.now a.shape) (shaped c.label_region.new.labels a.shape) c.requires.labels.labels_fit c.requires.labels.width c.requires.labels.height a.place.0 a.place.1 a.regions (a.regions + 1)
    c.index.result.now free shows c.label_region.ensures.region refl
