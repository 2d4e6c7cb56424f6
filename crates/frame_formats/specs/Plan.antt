-- Why there is no plan.
use Rattle.frame_formats.specs.declared.plans.PlanFault.{PlanFault}
use Rattle.frame_formats.specs.declared.plans.PlanFault.TheVariants.{Outside, Memory}

-- the fault is out of memory, or it is that there is nothing to plan
abbrev pub Tells : Type 0 → PlanFault → Type 0
Tells none Outside = none
Tells none Memory = Unit {0}
