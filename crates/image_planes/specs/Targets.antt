-- A target of the code as the definitions see it.
use Rattle.image_planes.specs.Resized.{Resizing, resizing}
use Rattle.image_planes.specs.declared.target.Target.{Target}

abbrev pub resizing_of : Target → Resizing
resizing_of t = resizing t.size t.width t.height t.resize
