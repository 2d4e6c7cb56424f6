-- The room for the blurs of a plan.
use Rattle.image_planes.specs.Scratch.{HasRoom}
use Rattle.image_planes.specs.declared.scratch.Scratch.{Scratch}
use Rattle.frame_formats.specs.Planned.{recipe_of}
use Rattle.frame_formats.specs.declared.plans.Plan.{Plan}

-- there is room for all of them
abbrev pub HasRoomFor : Plan → Scratch → Type 0
HasRoomFor p s = HasRoom (recipe_of p).jobs s
