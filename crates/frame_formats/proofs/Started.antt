-- The steps of the first plane, where there is a plane.
use Rattle.std.proofs.Common.{◌≡◌, ◌<◌, ℕ, zero, suc, List, [], ◌∷◌, Some, None, length, get_or, arith, refl}
use Rattle.image_planes.specs.Changes.{Job, job_for}
use Rattle.image_planes.specs.declared.change.Step.{Step}
use Rattle.texts.specs.Reading.{◌>>=◌}
use Rattle.frame_formats.specs.Layers.{StartsOn, change_on, job_on, layer_height, layer_width}
use Rattle.frame_formats.specs.Steps.{StartsWell, all_some, step_by}
use Rattle.frame_texts.specs.Pixels.{pixel_size}
use Rattle.frame_formats.specs.declared.layers.Layer.{Layer}
use Rattle.frame_edits.specs.declared.paint.Paint.{Paint}
use Rattle.frame_texts.specs.declared.pixel.Pixel.{Pixel}
use Rattle.frame_formats.proofs.StepsEach.{starts_made}

-- this plane is the first, or comes after it
pub starts_here : (pixel : Pixel) (layers : List Layer) (width height : ℕ) (steps : List (Step Paint)) (i : ℕ) (d : Layer) → i < length layers → StartsWell (step_by (change_on pixel (get_or layers i d) width height)) steps → (0 < i → StartsOn pixel layers width height steps) → StartsOn pixel layers width height steps
starts_here pixel [] width height steps i d within here so_far = absurd (omega (arith, within))
starts_here pixel (layer ∷ layers) width height steps zero d within here so_far = here
starts_here pixel (layer ∷ layers) width height steps (suc i) d within here so_far = so_far (omega arith)

-- a plane under all steps
pub job_starts : (pixel : Pixel) (layer : Layer) (width height : ℕ) (steps : List (Step Paint)) (job : Job) → job_on pixel layer width height steps ≡ Some job → StartsWell (step_by (change_on pixel layer width height)) steps
job_starts pixel layer width height steps job made =
    elim (all_some (step_by (change_on pixel layer width height)) steps) as (λ v. all_some (step_by (change_on pixel layer width height)) steps ≡ v → (v >>= job_for (pixel_size pixel) (layer_width layer width) (layer_height layer height)) ≡ Some job → StartsWell (step_by (change_on pixel layer width height)) steps) [
      | None ↦ λ is none. absurd cc
      | Some ys ↦ λ is more. starts_made (step_by (change_on pixel layer width height)) steps ys is
    ] refl made
