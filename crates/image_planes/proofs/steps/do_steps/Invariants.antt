use Rattle.std.proofs.Common.{◌≡◌, drop}
use Rattle.image_model.specs.Grid.{grid_of}
use Rattle.image_model.specs.Layout.{SameOutside}
use Rattle.image_shape.specs.Shape.{shaped}
use Rattle.image_planes.specs.Changes.{stepped}
use Rattle.image_planes.proofs.steps.do_steps.Given as goal

-- the steps that are left make of what is there what all of them make of what was there
abbrev pub invariant-loop-step : goal.invariant-loop-step
invariant-loop-step l = record {
  grid : stepped l.size l.number (drop l.step-index l.steps) (grid_of (shaped l.cells l.shape)) ≡ stepped l.size l.number l.steps (grid_of (shaped l.initial.cells l.shape));
  outside : SameOutside (shaped l.initial.cells l.shape) (shaped l.cells l.shape);
}
