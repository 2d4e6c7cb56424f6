-- Windows and stretches of the code as the definitions see them.
use Rattle.std.specs.Prelude.{List, map}
use Rattle.image_model.specs.Windows as model
use Rattle.image_shape.specs.declared.window.Window.{Window}
use Rattle.image_shape.specs.declared.window.Stretch.{Stretch}

-- the window with this one's corner and size
abbrev pub as_window : Window → model.Window
as_window w = model.window w.left w.top w.width w.height

-- each window of a path
abbrev pub as_path : List Window → List model.Window
as_path path = map as_window path

-- some cells, one after the other: where they begin and how many they are
abbrev pub as_stretch : Stretch → model.Stretch
as_stretch s = record { start = s.start; len = s.len }
