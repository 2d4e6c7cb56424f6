-- When a caller in C may use its cells as an image.
use Rattle.std.specs.Prelude.{ℕ, ◌^◌, ◌<◌, ◌≤◌, List}
use Rattle.image_model.specs.Layout.{layout, Fits}

-- cells that are an image of this size and stride, as `Img::new_stride` and each call on it require
pub record IsImage {T : Type 0} (cells : List T) (width height stride : ℕ) : Type 0 where
  pub stride_positive : 1 ≤ stride
  pub holds_width : width ≤ stride
  pub width_bound : width < 2 ^ 32
  pub height_bound : height < 2 ^ 32
  pub fits : Fits (layout cells width height stride)
