-- What the tests tell.
use Rattle.std.proofs.Common.{ℕ, arith, ◌*◌}
use Rattle.std.specs.Bool.{Decides}
use Rattle.std.proofs.lemmas.Bool.Decides.{nat_tests}
use Rattle.imgref_c.specs.Status.{IsImage, is_image, IsPixelImage, is_pixel_image}

-- the test tells whether so many cells are an image
pub is_image_decides : (count width height stride : ℕ) → Decides (is_image count width height stride) (IsImage count width height stride)
unfolding is_image
is_image_decides count width height stride = (
  λ e. record {
    stride_positive = grind (arith, nat_tests);
    holds_width = grind (arith, nat_tests);
    width_bound = grind (arith, nat_tests);
    height_bound = grind (arith, nat_tests);
    reaches = λ wide high. grind (arith, nat_tests);
  },
  λ h. grind (arith, nat_tests),
)

-- and whether they are one of pixels of several cells
pub is_pixel_image_decides : (channels count width height stride : ℕ) → Decides (is_pixel_image channels count width height stride) (IsPixelImage channels count width height stride)
unfolding is_pixel_image
is_pixel_image_decides channels count width height stride =
    let cells = is_image_decides count (channels * width) height stride in (
      λ e. record {
        some = grind (arith, nat_tests);
        few = grind (arith, nat_tests);
        cells = cells.0 (grind (arith, nat_tests));
      },
      λ h. let is = cells.1 h.cells in grind (arith, nat_tests),
    )
