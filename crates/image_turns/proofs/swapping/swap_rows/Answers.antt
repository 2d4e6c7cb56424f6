use Rattle.std.proofs.Common.{◌≡◌, ap, ◌∙◌, arith}
use Rattle.image_model.specs.Grid.{grid_of}
use Rattle.image_model.specs.Swaps.{rows_swapped}
use Rattle.image_shape.specs.Shape.{shaped}
use Rattle.image_model.proofs.Swaps.{either_first, itself_stays}
use Rattle.image_turns.proofs.swapping.swap_rows.Goals as goal

pub returns-then-z-y-clause-grid : goal.returns-then-z-y-clause-grid
returns-then-z-y-clause-grid g c = c.swap_apart-then-z-y.ensures.grid ∙ either_first _ c.args.z c.args.y

pub returns-else-z-y-clause-grid : goal.returns-else-z-y-clause-grid
returns-else-z-y-clause-grid g c =
    let same : c.args.y ≡ c.args.z = omega arith in
    let whole = shaped c.args.cells.now c.args.shape in
    itself_stays whole c.args.y ∙ ap (λ n. rows_swapped c.args.y n (grid_of whole)) same
