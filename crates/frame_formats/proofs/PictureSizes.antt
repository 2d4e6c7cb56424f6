-- The plane of a picture has its size.
use Rattle.std.proofs.Common.{◌≡◌, ℕ, ◌*◌, ◌<◌, ◌^◌, true, List, [], ◌∷◌, Some, arith, subst, sym}
use Rattle.std.proofs.Math.Nat.{le-mul_of_pos_right, mul_comm}
use Rattle.texts.proofs.Options.{some_is, bind_some}
use Rattle.image_planes.specs.Changes.{Job, is_job}
use Rattle.image_planes.specs.Resized.{Resizing, is_resizing}
use Rattle.image_planes.specs.declared.change.Step.{Step}
use Rattle.image_planes.specs.declared.target.Resize.{Resize}
use Rattle.frame_formats.specs.Layers.{picture_layers, jobs_on, resizing_on, resizings_on}
use Rattle.frame_formats.specs.Steps.{all_some}
use Rattle.frame_texts.specs.Pixels.{pixel_size}
use Rattle.frame_formats.specs.declared.layers.Layer.TheVariants.{Pixels}
use Rattle.frame_texts.specs.declared.pixel.Pixel.{Pixel}
use Rattle.frame_edits.specs.declared.paint.Paint.{Paint}
use Rattle.frame_formats.proofs.Sizes.{job_size, target_size}

-- what is known of a plane's size
abbrev InRange : ℕ → ℕ → Type 0
InRange width height = (0 < width) × (width < 2 ^ 32) × (height < 2 ^ 32)

in_range : (size width height : ℕ) (steps : List (Step (List ℕ))) → is_job size width height steps ≡ true → InRange width height
in_range size width height steps is =
    let some : 0 < size = grind arith in
    (grind arith, omega (arith, le-mul_of_pos_right width some, mul_comm width size, (let e : size * width < 2 ^ 32 = grind arith in e)), grind arith)

pub picture_size : (pixel : Pixel) (width height : ℕ) (steps : List (Step Paint)) (jobs : List Job) → jobs_on pixel picture_layers width height steps ≡ Some jobs → InRange width height
unfolding all_some
picture_size pixel width height steps jobs made = grind (arith, bind_some, job_size, in_range)

-- so does what gets another size
pub picture_resized : (pixel : Pixel) (width height : ℕ) (resize : Resize) (rs : List Resizing) → resizings_on pixel picture_layers width height resize ≡ Some rs → is_resizing (pixel_size pixel) width height resize ≡ true
unfolding all_some
picture_resized pixel width height resize rs made =
    let first = bind_some (resizing_on pixel Pixels width height resize) (λ r. Some (r ∷ [])) rs made in
    let size = target_size pixel Pixels width height resize first.0 first.1 in
    subst (λ z. is_resizing (pixel_size pixel) width height z ≡ true) (sym (some_is resize size.0 size.1)) size.2
