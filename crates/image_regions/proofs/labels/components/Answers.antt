use Rattle.std.proofs.Common.{◌≡◌, ap, ap₂, ◌∙◌, arith}
use Rattle.image_model.specs.ByPlace.{from_places}
use Rattle.imgref.specs.Words.{grid_of, height_of, shaped, vec_grid, width_of}
use Rattle.image_regions.proofs.Zeros.{zeros_shown, made_zeros}
use Rattle.image_regions.proofs.labels.components.Goals as goal

pub label_all-count-requires-clause-zeros : goal.label_all-count-requires-clause-zeros
label_all-count-requires-clause-zeros g c =
    let made : vec_grid c.in_ok-labels.labels ≡ from_places (width_of c.args.image) (height_of c.args.image) (λ x y. 0) = grind arith in
    let items = c.as_mut_slice.ensures.value ∙ ap (λ v. v.items) c.into_parts-cells.ensures.buf in
    let same = ap₂ (λ xs s. grid_of (shaped xs s)) items c.into_parts-cells.ensures.shape in
    zeros_shown (grid_of (shaped c.as_mut_slice.result.now c.into_parts-cells.result.1)) (width_of c.args.image) (height_of c.args.image) (same ∙ made ∙ made_zeros (width_of c.args.image) (height_of c.args.image))
