-- The cell that is lent is the one of the place, and what is left there patches the grid.
use Rattle.std.proofs.Common.{◌≡◌, ◌+◌, ◌*◌, refl, ap, ◌∙◌}
use Rattle.image_shape.specs.Shape.{shape_stride}
use Rattle.imgref.specs.Image.{stride_of}
use Rattle.imgref.proofs.SameImages.{same_image}
use Rattle.imgref.proofs.Writes.{cell_grid, cell_outside, cell_fits}
use Rattle.imgref.proofs.index.ImgIndexMutTuple2UsizeUsize.index_mut.Goals as goal

pub returns : goal.returns
returns g c =
    let i = c.args.self.now in
    let at = c.args.index in
    let cells = g.C.AsSlice.cells in
    let with_cell = g.C.AsMutSlice.with_cell in
    let stay = g.met.C.AsMutSlice.other_cells_stay in
    let is : c.cell-at.result ≡ at.1 * stride_of i + at.0 = c.cell-at.ensures.value ∙ ap (λ s. at.1 * shape_stride s + at.0) c.shape.ensures in (
      (refl, λ w. rw is (same_image _ _ _ _ _ _ _ _)),
      record {
        writes_back = tt;
        value = rw (← is) c.cell_mut.ensures.value;
        grid = λ fits column line value. cell_grid cells with_cell stay i at.0 at.1 c.requires.1 value i.holds_width fits column line;
        outside = λ column line value. cell_outside cells with_cell stay i at.0 at.1 c.requires.1 value column line;
        fits = λ fits value. cell_fits cells with_cell stay i at.0 at.1 c.requires.1 value fits;
      },
    )
