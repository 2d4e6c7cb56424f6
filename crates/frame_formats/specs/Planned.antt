-- A plan of the code as the definitions see it.
use Rattle.std.specs.Prelude.{ℕ, map, if◌then◌else◌}
use Rattle.std.specs.Option.{is_some}
use Rattle.image_planes.specs.Planes.{job_of}
use Rattle.frame_formats.specs.Recipe.{Recipe, recipe, resizings_of}
use Rattle.frame_formats.specs.declared.plans.Plan.{Plan}

abbrev pub recipe_of : Plan → Recipe
recipe_of p = recipe p.head.items (map job_of p.planes.items) (resizings_of p.targets)

-- how many bytes the two buffers need: one for a frame, and one for its new size
abbrev pub plan_room : Plan → ℕ
plan_room p = p.source_len

abbrev pub plan_other_room : Plan → ℕ
plan_other_room p = if is_some (resizings_of p.targets) then p.len else 0
