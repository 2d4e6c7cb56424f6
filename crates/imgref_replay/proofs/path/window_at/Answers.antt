-- What is left of the image along the path is the path's window.
use Rattle.std.proofs.Common.{rules, ◌≡◌, ◌≤◌, None, subst}
use Rattle.image_model.specs.Windows.{first_outside, path_layout}
use Rattle.imgref.specs.Image.{ref_layout}
use Rattle.imgref.specs.Shape.{shape_width, shape_stride}
use Rattle.imgref.specs.Window.{as_path}
use Rattle.imgref_replay.proofs.Paths.{path_window_is}
use Rattle.imgref_replay.proofs.path.window_at.Goals as goal

pub returns : goal.returns
returns g c =
    let l = ref_layout c.args.img in
    let path = as_path c.args.path.now in
    let wide : l.width ≤ l.stride = subst (λ s. shape_width s ≤ shape_stride s) c.into_parts.ensures.shape c.in_ok-stretch.ensures.holds_width in
    let inside : first_outside l.width l.height path ≡ None = search rules in
    let is : ref_layout c.from_parts.result ≡ path_layout l path = search rules in
    record { outside = search rules; window = path_window_is l path wide c.requires.fits inside (ref_layout c.from_parts.result) is }
