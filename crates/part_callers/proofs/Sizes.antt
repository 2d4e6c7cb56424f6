-- A window has its own size, whichever of the parent's cells it takes.
use Rattle.std.proofs.Common.{◌≡◌, Bool, true, false, refl}
use Rattle.image_model.specs.Layout.{Layout}
use Rattle.image_model.specs.Windows.{Window, window_layout}

pub window_width : {T : Type 0} (padded : Bool) (l : Layout T) (w : Window) → (window_layout padded l w).width ≡ w.width
window_width true l w = refl
window_width false l w = refl

pub window_height : {T : Type 0} (padded : Bool) (l : Layout T) (w : Window) → (window_layout padded l w).height ≡ w.height
window_height true l w = refl
window_height false l w = refl
