-- Images with one container and the same numbers, or one shape, are one: what an image keeps of its numbers says nothing more.
use Rattle.std.proofs.Common.{◌≡◌, ℕ, ◌≤◌}
use native.Mathlib.Bridge.{le_prop}
use Rattle.imgref.specs.declared.img.Img.{Img}
use Rattle.imgref.specs.Image.{buf_of, shape_of}

pub same_image : {C : Type 0} (buf : C) (width height stride : ℕ) (p p' : 1 ≤ stride) (q q' : width ≤ stride)
    → ◌≡◌ {A = Img C} (record { buf = buf; width = width; height = height; stride = stride; stride_positive = p; holds_width = q }) (record { buf = buf; width = width; height = height; stride = stride; stride_positive = p'; holds_width = q' })
same_image buf width height stride p p' q q' = λ i. record { buf = buf; width = width; height = height; stride = stride; stride_positive = le_prop p p' i; holds_width = le_prop q q' i }

pub image_is : {C : Type 0} (i j : Img C) → buf_of i ≡ buf_of j → shape_of i ≡ shape_of j → i ≡ j
image_is i j same alike = λ k. record { buf = same k; width = (alike k).width; height = (alike k).height; stride = (alike k).stride; stride_positive = (alike k).stride_positive; holds_width = (alike k).holds_width }
