-- How many bytes the planes have, before and after.
use Rattle.std.proofs.Common.{◌≡◌, ℕ, ◌+◌, ◌*◌, true, List, [], ◌∷◌, Some, sym, ap, ◌∙◌, arith}
use Rattle.texts.specs.Reading.{◌>>=◌}
use Rattle.texts.proofs.Options.{some_is, bind_some, guard_some}
use Rattle.image_planes.specs.Changes.{Job, job_len, is_job, jobs_len}
use Rattle.image_planes.specs.Resized.{Resizing, resizing, is_resizing, resizing_for, source_len, sources_len}
use Rattle.image_planes.specs.declared.change.Step.{Step}
use Rattle.image_planes.specs.declared.target.Resize.{Resize}
use Rattle.frame_formats.specs.Layers.{layer_width, layer_height, job_on, jobs_on, resize_on, resizing_on, resizings_on}
use Rattle.frame_formats.specs.Steps.{all_some}
use Rattle.frame_texts.specs.Pixels.{pixel_size}
use Rattle.frame_texts.specs.declared.pixel.Pixel.{Pixel}
use Rattle.frame_formats.specs.declared.layers.Layer.{Layer}
use Rattle.frame_edits.specs.declared.paint.Paint.{Paint}

-- how many bytes planes of these sizes have
abbrev pub layers_len : Pixel → List Layer → ℕ → ℕ → ℕ
layers_len pixel [] width height = 0
layers_len pixel (l ∷ ls) width height = pixel_size pixel * layer_width l width * layer_height l height + layers_len pixel ls width height

-- a plane has a size in range
pub job_size : (pixel : Pixel) (l : Layer) (width height : ℕ) (steps : List (Step Paint)) (j : Job) → job_on pixel l width height steps ≡ Some j → (pixel_size pixel * layer_width l width * layer_height l height ≡ job_len j) × (is_job (pixel_size pixel) (layer_width l width) (layer_height l height) j.steps ≡ true)
job_size pixel l width height steps j made = grind (arith, bind_some, guard_some)

pub jobs_size : (pixel : Pixel) (ls : List Layer) (width height : ℕ) (steps : List (Step Paint)) (jobs : List Job) → jobs_on pixel ls width height steps ≡ Some jobs → layers_len pixel ls width height ≡ jobs_len jobs
unfolding all_some
jobs_size pixel [] width height steps jobs made = ap jobs_len (some_is [] jobs made)
jobs_size pixel (l ∷ ls) width height steps jobs made =
    let first = bind_some (job_on pixel l width height steps) (λ j. jobs_on pixel ls width height steps >>= λ js. Some (j ∷ js)) jobs made in
    let others = bind_some (jobs_on pixel ls width height steps) (λ js. Some (first.0 ∷ js)) jobs first.2 in
    let one = (job_size pixel l width height steps first.0 first.1).0 in
    let rest = jobs_size pixel ls width height steps others.0 others.1 in
    (λ i. one i + rest i) ∙ ap jobs_len (some_is (first.0 ∷ others.0) jobs others.2)

pub target_size : (pixel : Pixel) (l : Layer) (width height : ℕ) (resize : Resize) (r : Resizing) → resizing_on pixel l width height resize ≡ Some r → (z : Resize) × (resize_on pixel l width height resize ≡ Some z) × (is_resizing (pixel_size pixel) (layer_width l width) (layer_height l height) z ≡ true) × (resizing (pixel_size pixel) (layer_width l width) (layer_height l height) z ≡ r)
target_size pixel l width height resize r made =
    let size = pixel_size pixel in
    let wide = layer_width l width in
    let high = layer_height l height in
    let under = bind_some (resize_on pixel l width height resize) (resizing_for size wide high) r made in
    let valid = guard_some (is_resizing size wide high under.0) (resizing size wide high under.0) r under.2 in
    (under.0, under.1, valid.0, valid.1)

sources_size : (pixel : Pixel) (ls : List Layer) (width height : ℕ) (resize : Resize) (rs : List Resizing) → resizings_on pixel ls width height resize ≡ Some rs → layers_len pixel ls width height ≡ sources_len rs
unfolding all_some
sources_size pixel [] width height resize rs made = ap sources_len (some_is [] rs made)
sources_size pixel (l ∷ ls) width height resize rs made =
    let first = bind_some (resizing_on pixel l width height resize) (λ r. resizings_on pixel ls width height resize >>= λ more. Some (r ∷ more)) rs made in
    let others = bind_some (resizings_on pixel ls width height resize) (λ more. Some (first.0 ∷ more)) rs first.2 in
    let one = ap source_len (target_size pixel l width height resize first.0 first.1).3 in
    let rest = sources_size pixel ls width height resize others.0 others.1 in
    (λ i. one i + rest i) ∙ ap sources_len (some_is (first.0 ∷ others.0) rs others.2)

-- the planes that are changed are those that get another size
pub same_sizes : (pixel : Pixel) (ls : List Layer) (width height : ℕ) (steps : List (Step Paint)) (resize : Resize) (jobs : List Job) (rs : List Resizing) → jobs_on pixel ls width height steps ≡ Some jobs → resizings_on pixel ls width height resize ≡ Some rs → jobs_len jobs ≡ sources_len rs
same_sizes pixel ls width height steps resize jobs rs planned cut = sym (jobs_size pixel ls width height steps jobs planned) ∙ sources_size pixel ls width height resize rs cut
