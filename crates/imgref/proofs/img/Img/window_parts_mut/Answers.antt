-- The window fits and shows the view.
use Rattle.std.proofs.Common.{◌≡◌, ◌≤◌, length, refl, ap, subst, ◌∙◌}
use Rattle.image_model.specs.Layout.{Layout}
use Rattle.image_model.specs.Windows.{Window, window_stretch, window_layout}
use Rattle.image_model.proofs.Windows.{fits_as, shows_as}
use Rattle.image_shape.specs.Shape.{shape_width, shape_stride, shaped}
use Rattle.image_shape.specs.Window.{as_stretch, as_window}
use Rattle.imgref.specs.Image.{layout_by, window_buf}
use Rattle.imgref.proofs.SameImages.{same_image}
use Rattle.imgref.proofs.WindowShapes.{window_is}
use Rattle.imgref.proofs.Writes.{window_patches, window_keeps, window_fits, window_contains}
use Rattle.imgref.proofs.img.Img.window_parts_mut.Goals as goal

pub returns : goal.returns
unfolding window_buf
returns g c =
    let i = c.args.self.now in
    let cells = g.C.AsSlice.cells in
    let with_cells = g.C.AsMutSlice.with_cells in
    let stay = g.met.C.AsMutSlice.others_stay in
    let padded = g.C.AsMutSlice.padded_windows in
    let w : Window = as_window c.args.window in
    let l : Layout g.row.C-Item.Denot = layout_by cells i in
    let is_shape = c.shape-whole.ensures in
    let narrow = subst (λ s. shape_width s ≤ shape_stride s) is_shape c.stretch-part.ensures.holds_width in
    let at : as_stretch c.stretch-part.result ≡ window_stretch padded (length l.cells) l.stride w =
    c.stretch-part.ensures.value ∙ (λ k. window_stretch (c.has_padded_windows.ensures k) (length (c.as_slice-len.ensures k)) (shape_stride (is_shape k)) w) in
    let m : Layout g.row.C-Item.Denot = shaped c.stretch_mut-cells.result.now c.window-shape.result in
    let is : m ≡ window_layout padded l w = window_is l w padded c.window-shape.result (as_stretch c.stretch-part.result) c.stretch_mut-cells.result.now at c.stretch_mut-cells.ensures.value
    c.window-shape.ensures.width c.window-shape.ensures.height (c.window-shape.ensures.stride ∙ ap shape_stride is_shape) in (
      (refl, λ ws. rw at (same_image _ _ _ _ _ _ _ _)),
      record {
        hands_on = tt;
        layout = is;
        fits = fits_as l narrow c.requires.fits w c.requires.inside padded m is;
        view = shows_as l narrow c.requires.fits w c.requires.inside padded m is;
        width = c.window-shape.ensures.width;
        height = c.window-shape.ensures.height;
        holds_width = narrow;
        grid = window_patches cells with_cells stay padded i w narrow c.requires.fits c.requires.inside m is;
        outside = window_keeps cells with_cells stay padded i w narrow c.requires.fits c.requires.inside m is;
        still_fits = window_fits cells with_cells stay padded i w narrow c.requires.fits c.requires.inside m is;
        container = window_contains cells with_cells stay padded i w narrow c.requires.fits c.requires.inside m is g.met.C.AsMutSlice.stretch_is_cells;
      },
    )
