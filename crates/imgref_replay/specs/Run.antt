-- A list of commands, from the first to the last.
use Rattle.std.specs.Prelude.{◌≡◌, Bool, List, [], ◌∷◌, map, All}
use Rattle.std.specs.List.{list_any}
use Rattle.image_model.specs.Layout.{Layout, Fits}
use Rattle.image_model.specs.Grid.{Grid, grid_of}
use Rattle.imgref_replay.specs.Step.{reply_to, after, compacts, AllKept}
use Rattle.image_commands.specs.declared.commands.Command.{Command}
use Rattle.image_commands.specs.declared.commands.Reply.{Reply}

-- the replies, in order
abbrev pub replies_to : {T : Type 0} → (T → T → Bool) → List (Command T) → List (Grid T) → List (Reply T)
replies_to eq [] grids = []
replies_to eq (command ∷ commands) grids = reply_to eq command grids ∷ replies_to eq commands (after command grids)

-- the grids after all of them
abbrev pub after_all : {T : Type 0} → List (Command T) → List (Grid T) → List (Grid T)
after_all [] grids = grids
after_all (command ∷ commands) grids = after_all commands (after command grids)

-- a run: the replies and the new grids are those of the old grids, each image is kept, and all fit
pub record IsRun {T : Type 0} (eq : T → T → Bool) (commands : List (Command T)) (olds news : List (Layout T)) (replies : List (Reply T)) : Type 0 where
  pub replies_are : replies ≡ replies_to eq commands (map grid_of olds)
  pub grids_are : map grid_of news ≡ after_all commands (map grid_of olds)
  pub all_kept : AllKept (λ i. list_any (compacts i) commands) olds news
  pub all_fit : All Fits news
