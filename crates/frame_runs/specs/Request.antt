-- A request of the code as the definitions see it.
use Rattle.frame_edits.specs.Edits.{Edits, edits}
use Rattle.frame_runs.specs.declared.request.Request.{Request}

abbrev pub edits_of : Request → Edits
edits_of r = edits r.steps.now r.framing
