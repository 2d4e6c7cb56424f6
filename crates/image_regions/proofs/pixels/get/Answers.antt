use Rattle.std.proofs.Common.{◌≡◌, ◌<◌, ℕ, Option, Some, None, sym, arith}
use Rattle.std.specs.Prelude.{IfSome}
use Rattle.image_model.specs.Layout.{Layout}
use Rattle.image_model.proofs.Reading.{is_a_place}
use Rattle.imgref.specs.Words.{grid_of, shaped}
use Rattle.image_regions.proofs.pixels.get.Goals as goal

-- a place that shows a pixel is one of the image
shown_inside : {T : Type 0} (l : Layout T) (x y : ℕ) (o : Option T) → o ≡ (grid_of l).pixel x y → IfSome o (λ _. (x < l.width) × (y < l.height))
shown_inside l x y None is = tt
shown_inside l x y (Some p) is = is_a_place l x y p (sym is)

pub returns-clause-inside : goal.returns-clause-inside
returns-clause-inside g c =
    let shown : c.get.result ≡ (grid_of (shaped c.args.cells.now c.args.shape)).pixel c.args.x c.args.y = grind arith in
    shown_inside (shaped c.args.cells.now c.args.shape) c.args.x c.args.y c.get.result shown
