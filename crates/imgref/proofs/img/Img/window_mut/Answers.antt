-- The image is one over the window's cells, in its shape.
use Rattle.std.proofs.Common.{◌≡◌, refl, sym, ap, subst, ◌∙◌}
use Rattle.image_model.specs.Layout.{Layout, Fits}
use Rattle.image_model.specs.Grid.{grid_of}
use Rattle.image_model.specs.Windows.{Window}
use Rattle.image_shape.specs.Shape.{shaped}
use Rattle.image_shape.specs.Window.{as_window}
use Rattle.imgref.specs.Image.{mut_layout}
use Rattle.imgref.specs.Written.{WindowPatchesGrid, WindowKeepsOutside, WindowKeepsFit, WindowKeepsContainer}
use Rattle.imgref.proofs.img.Img.window_mut.Goals as goal

pub returns : goal.returns
returns g c =
    let i = c.args.self.now in
    let cells = g.C.AsSlice.cells in
    let with_cells = g.C.AsMutSlice.with_cells in
    let padded = g.C.AsMutSlice.padded_windows in
    let w : Window = as_window c.args.window in
    let parts = c.window_parts_mut-buf in
    let made = c.from_parts.ensures in
    let is : shaped parts.result.0.now parts.result.1 ≡ mut_layout c.from_parts.result = λ k. shaped (sym made.buf k).now (sym made.shape k) in (
      (ap (λ b. b.ghost_name) (sym made.buf), λ ws. refl),
      record {
        hands_on = tt;
        layout = sym is ∙ parts.ensures.layout;
        fits = subst (λ (m : Layout g.row.C-Item.Denot). Fits m) is parts.ensures.fits;
        view = ap grid_of (sym is) ∙ parts.ensures.view;
        grid = subst (WindowPatchesGrid cells with_cells padded i w) is parts.ensures.grid;
        outside = subst (WindowKeepsOutside cells with_cells padded i w) is parts.ensures.outside;
        still_fits = subst (WindowKeepsFit cells with_cells padded i w) is parts.ensures.still_fits;
        container = subst (WindowKeepsContainer cells with_cells padded i w) is parts.ensures.container;
      },
    )
