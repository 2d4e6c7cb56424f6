-- The cells from the first number up to the last are the window's stretch.
use Rattle.std.proofs.Common.{◌≡◌, ◌-◌, ◌∙◌, arith}
use Rattle.image_writes.proofs.window_parts.exact_part.Goals as goal

pub returns-clause-part : goal.returns-clause-part
returns-clause-part c =
    let many : c.range.result.end - c.range.result.start ≡ c.stretch-part.result.len = omega (arith, c.range.ensures.start, c.range.ensures.end) in
    record {
      holds_width = c.stretch-part.ensures.holds_width;
      fits = c.requires.fits;
      inside = c.requires.inside;
      width = c.window.ensures.width;
      height = c.window.ensures.height;
      stride = c.window.ensures.stride;
      is = (λ i. record { start = c.range.ensures.start i; len = many i }) ∙ c.stretch-part.ensures.value;
    }
