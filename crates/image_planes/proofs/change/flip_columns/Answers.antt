-- The window of all columns and rows is the whole.
use Rattle.std.proofs.Common.{rules, ◌≡◌, ◌∙◌}
use Rattle.image_shape.specs.Shape.{shaped}
use Rattle.image_shape.specs.declared.window.Window.{Window}
use Rattle.image_planes.proofs.Flips.{whole_mirrored}
use Rattle.image_planes.proofs.change.flip_columns.Goals as goal

pub returns : goal.returns
returns c =
    let w : Window = c.new-window.result in
    let left : w.left ≡ 0 = search rules in
    let top : w.top ≡ 0 = search rules in
    let across : w.width ≡ c.width-width.result = search rules in
    let down : w.height ≡ c.height-height.result = search rules in
    record {
      grid = c.flip_window_columns.ensures.grid ∙ whole_mirrored c.args.size (shaped c.args.cells.now c.args.shape) w c.requires.pixels.some left top (across ∙ c.width-width.ensures.value) (down ∙ c.height-height.ensures.value) c.requires.pixels.whole;
      outside = c.flip_window_columns.ensures.outside;
    }
