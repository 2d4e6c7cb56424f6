use Rattle.std.proofs.Common.{arith}
use Rattle.texts.proofs.ShortPixels.{short_pixels}
use Rattle.texts.proofs.pixels.short_pixel.Goals as goal

pub returns-clause-pixel : goal.returns-clause-pixel
returns-clause-pixel c = short_pixels c.args.digits c.args.bytes.now (omega arith) c.requires.long c.requires.digits (omega arith) (omega arith)
