use Rattle.std.proofs.Common.{arith}
use Rattle.imgref.specs.Words.{ref_layout}
use Rattle.imgref_examples.proofs.Blurred.{three_pixels}
use Rattle.imgref_examples.proofs.blur.three_from.Goals as goal

pub returns-clause-value : goal.returns-clause-value
returns-clause-value c =
    let three = three_pixels (ref_layout c.args.src) c.args.x c.args.y c.index.result.now c.index-2.result.now c.index-3.result.now c.requires.column c.requires.row c.index.ensures c.index-2.ensures c.index-3.ensures in
    omega (arith, three, c.from.ensures, c.from-2.ensures, c.from-3.ensures)
