use Rattle.std.proofs.Common.{[], ◌∷◌, rules}
use Rattle.image_commands.specs.declared.commands.Reply.TheVariants.{Refused}
use Rattle.imgref_replay.proofs.Runs.{run_append}
use Rattle.imgref_replay.proofs.step.replay_next.Goals as goal

pub returns-in-Ok-clause-more : goal.returns-in-Ok-clause-more
returns-in-Ok-clause-more g c = λ before olds replies run. run_append g.T.PartialEq.eq before (c.args.command.now ∷ []) olds _ _ replies (c.in-Ok.reply ∷ []) run (search rules)

pub returns-in-Err-clause-more : goal.returns-in-Err-clause-more
returns-in-Err-clause-more g c = λ before olds replies run. run_append g.T.PartialEq.eq before (c.args.command.now ∷ []) olds _ _ replies (Refused c.in-Err.refusal ∷ []) run (search rules)
