-- The edits that the words are, which are refused.
use Rattle.frame_edits.specs.Lists.{plain}
use Rattle.frame_requests.proofs.Refusals.{added_words, words_refused}
use Rattle.frame_requests.proofs.words.edits_of_words.Goals as goal

pub returns-in-Err-refuse_unusable-clause-refused :
    goal.returns-in-Err-refuse_unusable-clause-refused
returns-in-Err-refuse_unusable-clause-refused c = words_refused _ (plain c.take_all.new.self) c.in-Err-refuse_unusable.refusal (added_words _ c.new-edits.result c.take_all.new.self c.new-edits.ensures.steps c.new-edits.ensures.framing c.in-Ok.ensures.adds) c.in-Err-refuse_unusable.ensures.refused
