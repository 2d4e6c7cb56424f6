-- A row that has a pixel has its cells.
use Rattle.image_model.proofs.Rows.{row_reached}
use Rattle.image_shape.proofs.shape.Shape.row.Goals as goal

pub returns-clause-inside : goal.returns-clause-inside
returns-clause-inside c =
    let s = c.args.self.now in
    row_reached c.args.cells s.width s.height s.stride c.args.y c.requires.fits c.requires.below
