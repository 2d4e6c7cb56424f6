-- Why a raw frame is no plane, and what is printed then.
use Rattle.std.specs.Prelude.{ℕ, List, Option, Some, None, codes, ◌^◌, ◌==◌, ◌||◌, nat_le, nat_lt, if◌then◌else◌}
use Rattle.image_model.specs.Layout.{layout, is_fitting}
use Rattle.imgref_examples.specs.declared.luma.FrameError.{FrameError}
use Rattle.imgref_examples.specs.declared.luma.FrameError.TheVariants.{TooLarge, BadStride, TooShort}

-- the first fault of a frame: its size, then its stride, then its cells
abbrev pub frame_fault : List ℕ → ℕ → ℕ → ℕ → Option FrameError
frame_fault cells width height stride =
    if nat_le (2 ^ 32) width || nat_le (2 ^ 32) height then Some TooLarge
    else (if (stride == 0) || nat_lt stride width then Some BadStride
    else (if is_fitting (layout cells width height stride) then None else Some TooShort))

-- what is printed
abbrev pub fault_text : FrameError → List ℕ
fault_text TooLarge = codes "too wide or too high"
fault_text BadStride = codes "stride below the width"
fault_text TooShort = codes "buffer too short"
