-- One command: its reply, what it makes of the grids, and what it leaves of the images.
use Rattle.std.specs.Prelude.{◌≡◌, ℕ, ◌==◌, Bool, false, if◌then◌else◌, Option, Some, None, List, [], ◌∷◌, map, slice_get, slice_set, All, Vec, Result, IfOk}
use Rattle.std.specs.Option.{option_map_or}
use Rattle.std.specs.Result.{result_err}
use Rattle.image_model.specs.Layout.{Layout, Fits}
use Rattle.image_model.specs.Grid.{Grid, grid_of, patch}
use Rattle.image_model.specs.Compaction.{IsKept}
use Rattle.image_model.specs.Windows.{Window, IsInside}
use Rattle.imgref.specs.declared.img.Img.{Img}
use Rattle.imgref.specs.Lists.{grids_of}
use Rattle.image_commands.specs.Commands.{grid_at, sizes_of, scene_of, reply_of, written, meaning}
use Rattle.image_commands.specs.declared.commands.Command.{Command}
use Rattle.image_commands.specs.declared.commands.Refusal.{Refusal}
use Rattle.image_commands.specs.declared.commands.Reply.{Reply}
use Rattle.image_commands.specs.declared.commands.Reply.TheVariants.{Refused}

-- the refusal of the first test that holds
abbrev pub first_fault : List (Bool × Refusal) → Option Refusal
first_fault [] = None
first_fault (test ∷ tests) = if test.0 then Some test.1 else first_fault tests

-- the first fault of a command
abbrev pub fault_of : {T : Type 0} → Command T → List (Grid T) → Option Refusal
fault_of command grids = first_fault ((meaning command).faults (sizes_of grids))

-- the reply to a command that has no fault
abbrev pub answer_to : {T : Type 0} → (T → T → Bool) → Command T → List (Grid T) → Reply T
answer_to eq command grids = reply_of ((meaning command).answer (scene_of eq grids)) grids

-- the grids after a command that has no fault
abbrev pub effect_of : {T : Type 0} → Command T → List (Grid T) → List (Grid T)
effect_of command grids = option_map_or (λ write. written write grids) ((meaning command).write (sizes_of grids)) grids

-- the reply to a command: its first fault, or what it replies without one
abbrev pub reply_to : {T : Type 0} → (T → T → Bool) → Command T → List (Grid T) → Reply T
reply_to eq command grids = option_map_or (λ refusal. Refused refusal) (fault_of command grids) (answer_to eq command grids)

-- the grids after a command: with a fault they stay
abbrev pub after : {T : Type 0} → Command T → List (Grid T) → List (Grid T)
after command grids = option_map_or (λ _. grids) (fault_of command grids) (effect_of command grids)

-- whether a command compacts image i, where there is such an image: a command that is refused compacts no image
abbrev pub compacts : {T : Type 0} → ℕ → Command T → Bool
compacts i command = option_map_or (λ image. image == i) ((meaning command).compacted) false

-- each image keeps its outside where it isn't compacted, and otherwise is packed
abbrev pub AllKept : {T : Type 0} → (ℕ → Bool) → List (Layout T) → List (Layout T) → Type 0
AllKept {T} compacted olds news = (i : ℕ) (old new : Layout T) → slice_get olds i ≡ Some old → slice_get news i ≡ Some new → IsKept (compacted i) old new

-- a window lies inside image i
abbrev pub IsInsideOf : {T Z : Type 0} → List (Img (Vec T Z)) → ℕ → Window → Type 0
IsInsideOf images i w = let g = grid_at (grids_of images) i in IsInside g.width g.height w

-- windows of one size, each inside an image that fits
pub record MayCopy {T : Type 0} (target : Layout T) (to : Window) (source : Layout T) (from : Window) : Type 0 where
  pub fits : Fits target
  pub inside : IsInside target.width target.height to
  pub source_fits : Fits source
  pub source_inside : IsInside source.width source.height from
  pub same_width : from.width ≡ to.width
  pub same_height : from.height ≡ to.height

-- a copy of a grid is at a corner of image i, each image keeps its outside, and all fit
pub record ShowsCopy {T : Type 0} (i left top : ℕ) (copy : Grid T) (olds news : List (Layout T)) : Type 0 where
  pub grids : map grid_of news ≡ slice_set (map grid_of olds) i (patch (grid_at (map grid_of olds) i) left top copy)
  pub kept : AllKept (λ _. false) olds news
  pub fits : All Fits news

-- a command was carried out, or refused with nothing changed
pub record IsStep {T : Type 0} (eq : T → T → Bool) (command : Command T) (olds news : List (Layout T)) (result : Result (Reply T) Refusal) : Type 0 where
  pub fault : result_err result ≡ fault_of command (map grid_of olds)
  pub answer : IfOk result (λ reply. reply ≡ answer_to eq command (map grid_of olds))
  pub grids : map grid_of news ≡ after command (map grid_of olds)
  pub kept : AllKept (λ i. compacts i command) olds news
  pub fits : All Fits news
