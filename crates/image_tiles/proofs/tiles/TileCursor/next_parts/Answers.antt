-- The window that the tiling steps over is the image's.
use Rattle.std.proofs.Common.{rules, refl, ap, subst}
use Rattle.image_model.specs.Windows.{Window}
use Rattle.image_shape.specs.Shape.{shaped}
use Rattle.imgref.specs.Image.{with_window}
use Rattle.imgref.specs.Written.{WindowPatchesGrid, WindowKeepsOutside, WindowKeepsFit, WindowKeepsContainer}
use Rattle.image_tiles.specs.Lending.{image_of}
use Rattle.image_tiles.proofs.Cursors.{same_cursor}
use Rattle.image_tiles.proofs.tiles.TileCursor.next_parts.Goals as goal

pub returns : goal.returns
returns g c =
    let i = image_of c.args.self.now in
    let cells = g.C.AsSlice.cells in
    let with_cells = g.C.AsMutSlice.with_cells in
    let padded = g.C.AsMutSlice.padded_windows in
    let next = c.next_window-window.ensures in
    let parts = c.window_parts_mut.ensures in
    let m = shaped c.window_parts_mut.result.0.now c.window_parts_mut.result.1 in (
      (refl, λ ws. same_cursor _ _ _ _ (ap (λ (w : Window). with_window cells with_cells padded i w ws) next.value) next.steps _ _ _ _),
      record {
        hands_on = tt;
        steps = search rules;
        inside = search rules;
        layout = search rules;
        fits = search rules;
        view = search rules;
        some_width = search rules;
        some_height = search rules;
        holds_width = search rules;
        grid = subst (λ (w : Window). WindowPatchesGrid cells with_cells padded i w m) next.value parts.grid;
        outside = subst (λ (w : Window). WindowKeepsOutside cells with_cells padded i w m) next.value parts.outside;
        still_fits = subst (λ (w : Window). WindowKeepsFit cells with_cells padded i w m) next.value parts.still_fits;
        container = subst (λ (w : Window). WindowKeepsContainer cells with_cells padded i w m) next.value parts.container;
      },
    )
