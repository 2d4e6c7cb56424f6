-- A plane of the code as the definitions see it.
use Rattle.std.specs.Prelude.{ℕ}
use Rattle.image_planes.specs.Changes.{Job, job, job_len}
use Rattle.image_planes.specs.declared.plane.Plane.{Plane}

abbrev pub job_of : Plane → Job
job_of p = job p.size p.width p.height p.steps.items

abbrev pub plane_len : Plane → ℕ
plane_len p = job_len (job_of p)
