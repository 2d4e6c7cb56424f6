-- The cells that are lent are the row's, and what is left there patches the grid.
use Rattle.std.proofs.Common.{◌≡◌, take, drop, length, refl, ap, ◌∙◌, arith}
use Rattle.image_model.proofs.OneRow.{row_is}
use Rattle.image_model.proofs.Stretches.{length-stretch_cells}
use Rattle.imgref.specs.Image.{width_of, layout_by}
use Rattle.imgref.specs.Index.{row_start, with_row}
use Rattle.imgref.proofs.SameImages.{same_image}
use Rattle.imgref.proofs.Writes.{row_patches, row_keeps, row_fits}
use Rattle.imgref.proofs.img.Img.row_mut.Goals as goal

pub returns : goal.returns
unfolding with_row
returns g c =
    let i = c.args.self.now in
    let l = layout_by g.C.AsSlice.cells i in
    let row = c.any_row-row.result in
    let start : row.start ≡ row_start l c.args.y = rw (c.any_row-row.ensures.start, c.shape.ensures) refl in
    let len : row.len ≡ width_of i = rw (c.any_row-row.ensures.len, c.shape.ensures) refl in
    let value = c.stretch_mut.ensures.value ∙ (λ k. take (len k) (drop (start k) l.cells)) in (
      (refl, λ w. rw (start, len) (same_image _ _ _ _ _ _ _ _)),
      record {
        writes_back = tt;
        value = value ∙ row_is l c.args.y c.requires.fits c.requires.row;
        len = ap length c.stretch_mut.ensures.value ∙ length-stretch_cells l.cells (record { start = row.start; len = row.len }) (omega (arith, c.any_row-row.ensures.inside, ap length c.as_slice.ensures)) ∙ len;
        grid = row_patches _ _ g.met.C.AsMutSlice.others_stay i c.args.y c.requires.fits c.requires.row i.holds_width;
        outside = row_keeps _ _ g.met.C.AsMutSlice.others_stay i c.args.y c.requires.fits c.requires.row;
        fits = row_fits _ _ g.met.C.AsMutSlice.others_stay i c.args.y c.requires.fits c.requires.row;
      },
    )
