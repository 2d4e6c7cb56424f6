-- A script, from its values to its bytes, its first bad line, and how far it has been read.
use Rattle.std.specs.Prelude.{◌≡◌, ℕ, ◌-◌, ◌^◌, ◌<◌, ◌≤◌, List, [], ◌∷◌, ◌++◌, map, length, take, drop, Option, Some, None, not, ◌==◌, if◌then◌else◌}
use Rattle.std.specs.List.{AllByRecursion, slice_index_or}
use Rattle.image_model.specs.Layout.{Layout}
use Rattle.imgref.specs.Image.{vec_layout}
use Rattle.texts.specs.Parts.{parts_of, parts_left}
use Rattle.texts.specs.Reading.{is_nil}
use Rattle.script_text.specs.Line.{Order, order_of, Entry, image_line, order_line, entry_text, image_text, order_text, IsScriptImage, IsOrder, IsEntry}
use Rattle.script_text.specs.declared.line.Line.{Line}
use Rattle.script_text.specs.declared.line.Line.TheVariants.{Image, Command as Ordered}
use Rattle.script_text.specs.declared.script.Script.{Script}
use Rattle.script_text.specs.declared.fault.ScriptFault.{ScriptFault}
use Rattle.script_text.specs.declared.fault.ScriptFault.TheVariants.{Line as BadLine, Memory}

-- ---- lines

-- every piece is a line, except an empty last one
abbrev pub whole_lines : List (List ℕ) → List (List ℕ)
whole_lines [] = []
whole_lines (piece ∷ []) = if length piece == 0 then [] else piece ∷ []
whole_lines (piece ∷ next ∷ more) = piece ∷ whole_lines (next ∷ more)

-- the lines of the bytes: line feeds separate them
unfoldable pub lines_of : List ℕ → List (List ℕ)
lines_of bytes = whole_lines (parts_of 10 bytes)

-- ---- scripts

-- the lines are the texts of these images, and then of these commands
pub record IsScript (lines : List (List ℕ)) (images : List (Layout ℕ)) (orders : List Order) : Type 0 where
  pub texts : lines ≡ map image_text images ++ map order_text orders
  pub images_in_range : AllByRecursion IsScriptImage images
  pub orders_in_range : AllByRecursion IsOrder orders

-- ---- good lines

-- no line is the line of a command
abbrev pub NoCommand : List (List ℕ) → Type 0
NoCommand lines = AllByRecursion (λ line. (o : Order) → IsOrder o → line ≡ order_text o → ⊥) lines

-- no command line comes before an image
abbrev pub MayFollow : List (List ℕ) → Entry → Type 0
MayFollow before (image_line i) = NoCommand before
MayFollow before (order_line o) = Unit {0}

-- a line is good after the lines before it if it is the text of an image or a command that is allowed there
pub record IsGood (before : List (List ℕ)) (line : List ℕ) : Type 0 where
  pub entry : Entry
  pub in_range : IsEntry entry
  pub text : line ≡ entry_text entry
  pub may_follow : MayFollow before entry

-- line k, from 0, is good at its position
abbrev pub IsGoodAt : List (List ℕ) → ℕ → Type 0
IsGoodAt lines k = IsGood (take k lines) (slice_index_or lines k [])

-- each of the first n lines is good at its position
abbrev pub AreGood : List (List ℕ) → ℕ → Type 0
AreGood lines n = (k : ℕ) → k < n → IsGoodAt lines k

-- line n, from 1, is the first that isn't good
pub record IsFirstBad (lines : List (List ℕ)) (n : ℕ) : Type 0 where
  pub positive : 0 < n
  pub within : n ≤ length lines
  pub good_before : AreGood lines (n - 1)
  pub bad : IsGoodAt lines (n - 1) → ⊥

-- the fault is out of memory, or it names the first line that isn't good
abbrev pub IsFaultOf : List (List ℕ) → ScriptFault → Type 0
IsFaultOf lines (BadLine n) = IsFirstBad lines n
IsFaultOf lines Memory = Unit {0}

-- ---- a script that is read line by line

-- the lines that are left
abbrev pub lines_left : Script → List (List ℕ)
lines_left s = whole_lines (parts_left s.pieces)

-- of these lines the first are read, as the texts of these images and commands, and the others are left
pub record IsRead (s : Script) (lines : List (List ℕ)) (images : List (Layout ℕ)) (orders : List Order) : Type 0 where
  pub script : IsScript (take s.number lines) images orders
  pub good : AreGood lines s.number
  pub left : drop s.number lines ≡ lines_left s
  pub within : s.number ≤ length lines
  pub countable : length lines < 2 ^ 64
  pub commanded : s.has_command ≡ not (is_nil orders)

-- after these images and commands nothing was read, since the lines are their script; or one more line was
abbrev pub ReadsOn : Script → List (List ℕ) → List (Layout ℕ) → List Order → Option Line → Type 0
ReadsOn s lines images orders None = IsScript lines images orders × AreGood lines (length lines)
ReadsOn s lines images orders (Some (Image i)) = (orders ≡ []) × IsRead s lines (images ++ vec_layout i ∷ []) []
ReadsOn s lines images orders (Some (Ordered c)) = IsRead s lines images (orders ++ order_of c ∷ [])
