-- Lines of a script: an image or a command as a value, without where it lies in memory, its text, and which values have one.
use Rattle.std.specs.Prelude.{◌≡◌, ℕ, ◌≤◌, Bool, true, false, List, [], ◌∷◌, ◌++◌, map, Option, Some, None, option_map, codes}
use Rattle.std.specs.List.{find, flat_map, join_with_byte, AllByRecursion}
use Rattle.std.specs.Str.{bytes_eq}
use Rattle.std.specs.Fmt.{decimal}
use Rattle.image_model.specs.Layout.{Layout, Fits}
use Rattle.imgref.specs.Image.{vec_layout}
use Rattle.image_shape.specs.declared.window.Window.{Window}
use Rattle.image_commands.specs.declared.commands.Place.{Place}
use Rattle.image_commands.specs.declared.commands.Command.{Command}
use Rattle.image_commands.specs.declared.commands.Command.TheVariants.{Get, Put, Fill, Count, Same, Blit, Mosaic, Compact}
use Rattle.script_text.specs.Fields.{path_text, IsPath}
use Rattle.texts.specs.Fields.{IsWord, IsPixel}
use Rattle.script_text.specs.declared.line.Line.{Line}
use Rattle.script_text.specs.declared.line.Line.TheVariants.{Image, Command as Ordered}

-- ---- what follows a command's word

-- a number, a pixel, or the number of an image with a path
pub data Kind : Type 0 where
  a_number : Kind
  a_pixel : Kind
  a_place : Kind

-- a value of one of these kinds
pub data Argument : Type 0 where
  number : ℕ → Argument
  pixel : ℕ → Argument
  place : ℕ → List Window → Argument

abbrev pub kind_of : Argument → Kind
kind_of (number n) = a_number
kind_of (pixel p) = a_pixel
kind_of (place image path) = a_place

-- its fields
abbrev pub argument_fields : Argument → List (List ℕ)
argument_fields (number n) = decimal n ∷ []
argument_fields (pixel p) = decimal p ∷ []
argument_fields (place image path) = decimal image ∷ path_text path ∷ []

-- its numbers are in range
abbrev pub IsArgument : Argument → Type 0
IsArgument (number n) = IsWord n
IsArgument (pixel p) = IsPixel p
IsArgument (place image path) = IsWord image × IsPath path

-- ---- commands

-- a command as its word and what follows it
pub record Order : Type 0 where
  pub word : List ℕ
  pub arguments : List Argument

abbrev pub order : List ℕ → List Argument → Order
order word arguments = record { word = word; arguments = arguments }

-- a word, the kinds of the fields after it, and what these fields are for a command of this form
pub record Form : Type 0 where
  pub word : List ℕ
  pub kinds : List Kind
  pub arguments_of : Command ℕ → Option (List Argument)

abbrev pub form : List ℕ → List Kind → (Command ℕ → Option (List Argument)) → Form
form word kinds arguments_of = record { word = word; kinds = kinds; arguments_of = arguments_of }

-- the image's number and the path of a place of the program
abbrev pub place_of : Place → Argument
place_of p = place p.image p.path.items

-- the form of each command
abbrev pub forms : List Form
forms =
    form (codes "get") (a_place ∷ a_number ∷ a_number ∷ [])
    (λ c. elim c [ Get spot x y ↦ Some (place_of spot ∷ number x ∷ number y ∷ []) | other ↦ None ])
    ∷ form (codes "put") (a_place ∷ a_number ∷ a_number ∷ a_pixel ∷ [])
    (λ c. elim c [ Put spot x y value ↦ Some (place_of spot ∷ number x ∷ number y ∷ pixel value ∷ []) | other ↦ None ])
    ∷ form (codes "fill") (a_place ∷ a_pixel ∷ [])
    (λ c. elim c [ Fill spot value ↦ Some (place_of spot ∷ pixel value ∷ []) | other ↦ None ])
    ∷ form (codes "count") (a_place ∷ a_pixel ∷ [])
    (λ c. elim c [ Count spot value ↦ Some (place_of spot ∷ pixel value ∷ []) | other ↦ None ])
    ∷ form (codes "same") (a_place ∷ a_place ∷ [])
    (λ c. elim c [ Same first second ↦ Some (place_of first ∷ place_of second ∷ []) | other ↦ None ])
    ∷ form (codes "blit") (a_place ∷ a_place ∷ [])
    (λ c. elim c [ Blit source target ↦ Some (place_of source ∷ place_of target ∷ []) | other ↦ None ])
    ∷ form (codes "mosaic") (a_place ∷ a_number ∷ a_number ∷ [])
    (λ c. elim c [ Mosaic spot width height ↦ Some (place_of spot ∷ number width ∷ number height ∷ []) | other ↦ None ])
    ∷ form (codes "compact") (a_number ∷ [])
    (λ c. elim c [ Compact image ↦ Some (number image ∷ []) | other ↦ None ])
    ∷ []

-- the form with this word
abbrev pub form_of : List ℕ → Option Form
form_of word = find (λ f. bytes_eq word f.word) forms

-- what follows this word
abbrev pub kinds_of : List ℕ → Option (List Kind)
kinds_of word = option_map (λ f. f.kinds) (form_of word)

-- the command by the first of these forms that it has
abbrev pub order_by : List Form → Command ℕ → Order
order_by [] c = order [] []
order_by (f ∷ fs) c = elim (f.arguments_of c) [ Some arguments ↦ order f.word arguments | None ↦ order_by fs c ]

-- each command of the program
abbrev pub order_of : Command ℕ → Order
order_of c = order_by forms c

-- a command that a script may hold: whether its image, windows and place are there is for the run to say
pub record IsOrder (o : Order) : Type 0 where
  pub formed : kinds_of o.word ≡ Some (map kind_of o.arguments)
  pub in_range : AllByRecursion IsArgument o.arguments

-- ---- images

-- an image that a script may hold: it fits, with a stride of at least 1 and of at least its width
pub record IsScriptImage (i : Layout ℕ) : Type 0 where
  pub width : i.width ≤ 4294967295
  pub height : i.height ≤ 4294967295
  pub stride : IsWord i.stride
  pub stride_positive : 1 ≤ i.stride
  pub holds_width : i.width ≤ i.stride
  pub cells : AllByRecursion IsPixel i.cells
  pub fits : Fits i

-- an image's word and its sizes
abbrev pub sizes_fields : Layout ℕ → List (List ℕ)
sizes_fields i = codes "image" ∷ decimal i.width ∷ decimal i.height ∷ decimal i.stride ∷ []

-- ---- lines

-- what a line stands for
pub data Entry : Type 0 where
  image_line : Layout ℕ → Entry
  order_line : Order → Entry

-- whether it is a command
abbrev pub is_order : Entry → Bool
is_order (image_line i) = false
is_order (order_line o) = true

-- what a line of the program stands for
abbrev pub entry_of : Line → Entry
entry_of (Image i) = image_line (vec_layout i)
entry_of (Ordered c) = order_line (order_of c)

-- its fields: the word, and then the sizes and all cells of an image, or what follows the word of a command
abbrev pub entry_fields : Entry → List (List ℕ)
entry_fields (image_line i) = sizes_fields i ++ map decimal i.cells
entry_fields (order_line o) = o.word ∷ flat_map argument_fields o.arguments

-- a line is its fields joined by single spaces
abbrev pub line_of : List (List ℕ) → List ℕ
line_of fields = join_with_byte 32 fields

-- the line of an image or a command
abbrev pub entry_text : Entry → List ℕ
entry_text e = line_of (entry_fields e)

-- the line of an image
abbrev pub image_text : Layout ℕ → List ℕ
image_text i = entry_text (image_line i)

-- the line of a command
abbrev pub order_text : Order → List ℕ
order_text o = entry_text (order_line o)

-- what a good line stands for
abbrev pub IsEntry : Entry → Type 0
IsEntry (image_line i) = IsScriptImage i
IsEntry (order_line o) = IsOrder o

-- the line is the text of this value, and of no other
pub record IsLineOf (line : List ℕ) (e : Entry) : Type 0 where
  pub in_range : IsEntry e
  pub text : line ≡ entry_text e
  pub only : (other : Entry) → IsEntry other → line ≡ entry_text other → other ≡ e

-- each line parses in at most one way
abbrev pub EachTextHasOneValue : Type 0
EachTextHasOneValue = (d e : Entry) → IsEntry d → IsEntry e → entry_text d ≡ entry_text e → d ≡ e
