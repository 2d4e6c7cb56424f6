-- Reading, the other way round than texts: fields of a line as a value, or nothing where they are the text of none.
use Rattle.std.specs.Prelude.{◌≡◌, ℕ, Bool, ◌&&◌, List, [], ◌∷◌, Option, Some, None, Result, Ok, Err, nat_le, if◌then◌else◌, codes}
use Rattle.std.specs.Option.{option_map}
use Rattle.std.specs.Str.{bytes_eq}
use Rattle.image_model.specs.Layout.{Layout, layout, is_fitting}
use Rattle.image_shape.specs.declared.window.Window.{Window}
use Rattle.texts.specs.Parts.{parts_of}
use Rattle.texts.specs.Reading.{◌>>=◌, pixel_of, each_of, first_of_parts, number_at, pixel_at, is_nil, window_of}
use Rattle.script_text.specs.Line.{Kind, a_number, a_pixel, a_place, Argument, number, pixel, place, form_of, Order, order, Entry, image_line, order_line}
use Rattle.script_text.specs.declared.fault.LineFault.{LineFault}
use Rattle.script_text.specs.declared.fault.LineFault.TheVariants.{Memory, Bad}

-- ---- the result of a function of the program that reads, besides what is read

-- out of memory, nothing is said; else there is nothing to read
abbrev pub Fails : {Y : Type 0} → LineFault → Option Y → Type 0
Fails Memory read = Unit {0}
Fails Bad read = read ≡ None

-- the same of one that takes memory
abbrev pub Gives : {X Y : Type 0} → (X → Y) → Result X LineFault → Option Y → Type 0
Gives view (Ok x) read = read ≡ Some (view x)
Gives view (Err e) read = Fails e read

-- the path that a field is the text of
unfoldable pub path_of : List ℕ → Option (List Window)
path_of field = if bytes_eq field (45 ∷ []) then Some [] else each_of window_of (parts_of 47 field)

-- the path that the first part is the text of, and the parts after it
abbrev pub path_at : List (List ℕ) → Option (List Window × List (List ℕ))
path_at parts = first_of_parts path_of parts

-- ---- what follows a word

-- an image's number and a path, and the fields after them
unfoldable pub place_at : List (List ℕ) → Option (Argument × List (List ℕ))
place_at fields = do
  image ← number_at fields
  path ← path_at image.1
  Some (place image.0 path.0, path.1)

-- what the first fields are as an argument of a kind, and the fields after them
abbrev pub argument_at : Kind → List (List ℕ) → Option (Argument × List (List ℕ))
argument_at a_number fields = option_map (λ n. (number n.0, n.1)) (number_at fields)
argument_at a_pixel fields = option_map (λ p. (pixel p.0, p.1)) (pixel_at fields)
argument_at a_place fields = place_at fields

-- arguments of these kinds, and the fields after them
unfoldable pub arguments_at : List Kind → List (List ℕ) → Option (List Argument × List (List ℕ))
arguments_at [] fields = Some ([], fields)
arguments_at (kind ∷ kinds) fields = do
  first ← argument_at kind fields
  rest ← arguments_at kinds first.1
  Some (first.0 ∷ rest.0, rest.1)

-- a command by its word, and the fields after it
abbrev pub order_at : List ℕ → List (List ℕ) → Option (Order × List (List ℕ))
order_at word fields = do
  form ← form_of word
  option_map (λ found. (order form.word found.0, found.1)) (arguments_at form.kinds fields)

-- a command by its word, and no field more
unfoldable pub order_in : List ℕ → List (List ℕ) → Option Order
order_in word fields = do
  found ← order_at word fields
  if is_nil found.1 then Some found.0 else None

-- ---- lines

-- whether the sizes are in range and the layout fits
abbrev pub is_sized : Layout ℕ → Bool
is_sized i = nat_le i.width 4294967295 && (nat_le i.height 4294967295 && (nat_le 1 i.stride && (nat_le i.width i.stride && is_fitting i)))

-- the image where it is one that scripts may hold
abbrev pub sized : Layout ℕ → Option (Layout ℕ)
sized i = if is_sized i then Some i else None

-- the fields of an image after its word
unfoldable pub image_in : List (List ℕ) → Option (Layout ℕ)
image_in fields = do
  width ← number_at fields
  height ← number_at width.1
  stride ← number_at height.1
  cells ← each_of pixel_of stride.1
  sized (layout cells width.0 height.0 stride.0)

-- the fields of a line
unfoldable pub line_in : List (List ℕ) → Option Entry
line_in [] = None
line_in (word ∷ fields) =
    if bytes_eq word (codes "image") then option_map image_line (image_in fields)
    else option_map order_line (order_in word fields)
