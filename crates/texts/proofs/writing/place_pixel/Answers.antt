use Rattle.std.proofs.Common.{arith}
use Rattle.texts.proofs.PixelTexts.{front_put}
use Rattle.texts.proofs.writing.place_pixel.Goals as goal

pub returns-clause-text : goal.returns-clause-text
returns-clause-text c =
    let of = c.pixel_text-size in
    front_put c.args.at of.result.1 c.args.block.now of.result.0 _ of.ensures.text (omega arith) (omega arith)
