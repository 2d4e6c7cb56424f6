-- What a run has read and written, by its result.
use Rattle.std.specs.Prelude.{◌≡◌, ◌==◌, ℕ, List, [], map, length, Option, Result, Ok, Err, IfSome}
use Rattle.std.specs.Io.KnownBytes.{Appends, Keeps, IsAtEnd}
use Rattle.image_model.specs.Layout.{Layout}
use Rattle.image_commands.specs.declared.commands.Command.{Command}
use Rattle.image_commands.specs.declared.commands.Reply.{Reply}
use Rattle.imgref_replay.specs.Run.{IsRun}
use Rattle.imgref_run.specs.declared.fault.RunFault.{RunFault}
use Rattle.imgref_run.specs.declared.fault.RunFault.TheVariants.{Line, Memory, Input, Output}
use Rattle.script_text.specs.Line.{order_of, image_text}
use Rattle.script_text.specs.Script.{lines_of, IsScript, AreGood, IsFirstBad}
use Rattle.script_text.specs.Output.{replies_text, output_text}
use Rattle.devices.specs.Whole.{AppendsBeginning}

-- the lines are a script, and these are its images after its commands, and the lines of the replies
pub record IsReplayOf (lines : List (List ℕ)) (layouts : List (Layout ℕ)) (text : List ℕ) : Type 0 where
  pub images : List (Layout ℕ)
  pub commands : List (Command ℕ)
  pub script : IsScript lines images (map order_of commands)
  pub good : AreGood lines (length lines)
  pub replies : List (Reply ℕ)
  pub run : IsRun (λ a b. a == b) commands images layouts replies
  pub told : text ≡ replies_text replies

-- the input is a script, and the text is its output: the lines of the replies to its commands, and those of its images after them, which are themselves the script of these images
pub record IsOutputOf (input text : List ℕ) : Type 0 where
  pub images : List (Layout ℕ)
  pub commands : List (Command ℕ)
  pub script : IsScript (lines_of input) images (map order_of commands)
  pub good : AreGood (lines_of input) (length (lines_of input))
  pub layouts : List (Layout ℕ)
  pub replies : List (Reply ℕ)
  pub run : IsRun (λ a b. a == b) commands images layouts replies
  pub output : text ≡ output_text replies layouts
  pub again : IsScript (map image_text layouts) layouts []

-- what a run with this result wrote, for the input, to a writer that held the old bytes and now holds the new
abbrev pub Writes : {T : Type 0} → Result T RunFault → Option (List ℕ) → Option (List ℕ) → Option (List ℕ) → Type 0
Writes (Ok x) input old new = IfSome input (λ bytes. (text : List ℕ) × IsOutputOf bytes text × Appends old new text)
Writes (Err (Line n)) input old new = IfSome input (λ bytes. IsFirstBad (lines_of bytes) n) × Keeps old new
Writes (Err Memory) input old new = Keeps old new
Writes (Err Input) input old new = Keeps old new
Writes (Err Output) input old new = IfSome input (λ bytes. (text : List ℕ) × IsOutputOf bytes text × AppendsBeginning old new text)

-- a run with one of these results has read all of the input
abbrev pub ReadsAll : {T : Type 0} → Result T RunFault → Option (List ℕ) → Type 0
ReadsAll (Ok x) left = IsAtEnd left
ReadsAll (Err (Line n)) left = IsAtEnd left
ReadsAll (Err Memory) left = Unit {0}
ReadsAll (Err Input) left = Unit {0}
ReadsAll (Err Output) left = IsAtEnd left
