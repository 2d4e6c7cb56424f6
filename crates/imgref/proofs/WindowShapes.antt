-- The cells of a window's stretch, in the window's shape, are the window.
use Rattle.std.proofs.Common.{◌≡◌, Bool, List, length, ap, ◌∙◌}
use Rattle.image_model.specs.Layout.{Layout, layout}
use Rattle.image_model.specs.Windows.{Window, Stretch, stretch_cells, window_stretch, window_layout}
use Rattle.image_model.proofs.Windows.{layout_is}
use Rattle.image_shape.specs.declared.shape.Shape.{Shape}
use Rattle.image_shape.specs.Shape.{shape_width, shape_height, shape_stride, shaped}

pub window_is : {T : Type 0} (l : Layout T) (w : Window) (padded : Bool) (s : Shape) (at : Stretch) (cells : List T) → at ≡ window_stretch padded (length l.cells) l.stride w → cells ≡ stretch_cells l.cells at
    → shape_width s ≡ w.width → shape_height s ≡ w.height → shape_stride s ≡ l.stride → shaped cells s ≡ window_layout padded l w
window_is l w padded s at cells is are wide high far =
    (λ k. layout (are k) (wide k) (high k) (far k)) ∙ ap (λ a. layout (stretch_cells l.cells a) w.width w.height l.stride) is ∙ layout_is padded l w
