-- The first edit is one of the video or the picture for which memory is asked.
use Rattle.std.proofs.Common.{◌≡◌, ◌≢◌, ℕ, List, [], ◌∷◌, ◌++◌, Option, Some, None, Err, arith, refl, sym, ◌∙◌}
use Rattle.std.specs.Io.KnownBytes.{Consumes}
use Rattle.texts.specs.Reading.{◌>>=◌}
use Rattle.texts.proofs.Options.{bind_some}
use Rattle.frame_edits.specs.Edits.{Edits}
use Rattle.frame_edits.specs.Covers.{one_pixel, video_unit}
use Rattle.frame_texts.specs.Format.{format_of}
use Rattle.frame_texts.specs.Rates.{rate_of}
use Rattle.frame_texts.specs.declared.header.Format.{Format}
use Rattle.frame_texts.specs.declared.picture.Picture.{Picture}
use Rattle.frame_formats.specs.Layers.{jobs_on, picture_layers, picture_pixel, video_layers}
use Rattle.frame_formats.specs.Recipe.{Recipe, finished_picture, finished_video, picture_recipe, video_recipe}
use Rattle.frame_formats.specs.Steps.{StartsWell, all_some, step_in}
use Rattle.frame_formats.specs.declared.plans.PlanFault.{PlanFault}
use Rattle.frame_formats.specs.declared.plans.PlanFault.TheVariants.{Outside as NoPlan, Memory as NoMemory}
use Rattle.frame_requests.specs.declared.fault.RunFault.{RunFault}
use Rattle.frame_requests.specs.declared.fault.RunFault.TheVariants.{Memory}
use Rattle.frame_runs.specs.Kept.{NeedsMemory, StartsPicture, StartsVideo, VideoLineRead, VideoStops}
use Rattle.frame_runs.specs.Program.{fault_of_plan}

-- where all become something, the first does
starts_made : {A B : Type 0} (f : A → Option B) (xs : List A) (ys : List B) → all_some f xs ≡ Some ys → StartsWell f xs
unfolding all_some
starts_made f [] ys made some = absurd (omega (arith, some))
starts_made f (x ∷ xs) ys made some = λ none. absurd (let first = bind_some (f x) (λ y. all_some f xs >>= λ zs. Some (y ∷ zs)) ys made in let bad : Some first.0 ≡ None = sym first.1 ∙ none in cc)

pub video_starts : (e : Edits) (line : List ℕ) (format : Format) (r : Recipe) → format_of line ≡ Some format → video_recipe e line ≡ Some r → StartsVideo e line format
video_starts e line format r named made =
    let one : (all_some (step_in (video_unit format) (rate_of line) format.width format.height) e.steps >>= λ steps. jobs_on format.pixel (video_layers format.chroma) format.width format.height steps >>= λ jobs. finished_video line format jobs e.framing) ≡ Some r = rw named at made in
    let all = bind_some (all_some (step_in (video_unit format) (rate_of line) format.width format.height) e.steps) (λ steps. jobs_on format.pixel (video_layers format.chroma) format.width format.height steps >>= λ jobs. finished_video line format jobs e.framing) r one in
    starts_made (step_in (video_unit format) (rate_of line) format.width format.height) e.steps all.0 all.1

pub picture_starts : (e : Edits) (p : Picture) (r : Recipe) → picture_recipe e p ≡ Some r → StartsPicture e p
picture_starts e p r made =
    let all = bind_some (all_some (step_in one_pixel None p.width p.height) e.steps) (λ steps. jobs_on (picture_pixel p) picture_layers p.width p.height steps >>= λ jobs. finished_picture p jobs e.framing) r made in
    starts_made (step_in one_pixel None p.width p.height) e.steps all.0 all.1

-- the fault of a plan as one of the run
pub plan_needs : (e : Edits) (p : Picture) (number : ℕ) (fault : PlanFault) → (fault ≡ NoMemory → StartsPicture e p) → NeedsMemory e None p (fault_of_plan number fault)
plan_needs e p number NoPlan starts = tt
plan_needs e p number NoMemory starts = (tt, starts refl)

-- a plan is kept for no picture, or for another one
pub needs_first : (e : Edits) (before : Option Picture) (p : Picture) (fault : RunFault) → before ≡ None → NeedsMemory e None p fault → NeedsMemory e before p fault
needs_first e before p fault none needs = rw none needs

pub needs_other : (e : Edits) (q p : Picture) (fault : RunFault) → q ≢ p → NeedsMemory e None p fault → NeedsMemory e (Some q) p fault
needs_other e q p (Memory n) other needs = (other, needs.1)
needs_other e q p _ other needs = tt

-- exactly the line was read, and there was no memory
pub line_read : (e : Edits) (line : List ℕ) (format : Format) → format_of line ≡ Some format → StartsVideo e line format → (input left : Option (List ℕ)) → Consumes input left (line ++ 10 ∷ []) → VideoLineRead e 0 input left
line_read e line format named starts input left read = record { none = refl; line = line; format = format; named = named; read = read; starts = starts }

pub plan_stops : (e : Edits) (line : List ℕ) (format : Format) (fault : PlanFault) → format_of line ≡ Some format → (fault ≡ NoMemory → StartsVideo e line format) → (input left : Option (List ℕ)) → Consumes input left (line ++ 10 ∷ []) → VideoStops {T = ℕ} (Err (fault_of_plan 0 fault)) e input left
plan_stops e line format NoPlan named starts input left read = tt
plan_stops e line format NoMemory named starts input left read = line_read e line format named (starts refl) input left read
