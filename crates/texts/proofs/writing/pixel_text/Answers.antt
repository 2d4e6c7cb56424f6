use Rattle.std.proofs.Common.{arith}
use Rattle.std.proofs.lemmas.Grind.{common_steps}
use Rattle.texts.proofs.PixelTexts.{pixel_text_is}
use Rattle.texts.proofs.writing.pixel_text.Goals as goal

pub returns-clause-text : goal.returns-clause-text
returns-clause-text c = pixel_text_is c.args.pixel c.ranges.pixel.fits

pub returns-clause-lanes : goal.returns-clause-lanes
returns-clause-lanes c = grind (arith, common_steps)
