-- What is told of runs that have seen the same is one.
use Rattle.frame_messages.proofs.Told.{one_ending, one_told, one_uncovered}
use Rattle.frame_messages.proofs.ending.ending_of.Goals as goal

pub returns-clause-one_ending : goal.returns-clause-one_ending
returns-clause-one_ending c = one_ending

pub returns-clause-one_told : goal.returns-clause-one_told
returns-clause-one_told c = one_told

pub returns-clause-one_uncovered : goal.returns-clause-one_uncovered
returns-clause-one_uncovered c = one_uncovered
