use Rattle.std.proofs.Common.{◌∙◌, ap, sym, Ok}
use Rattle.frame_requests.proofs.OptionsRead.{one_read, front_read, all_read}
use Rattle.frame_requests.proofs.options.read_options.Goals as goal

pub returns-in-Ok-None-clause-options : goal.returns-in-Ok-None-clause-options
returns-in-Ok-None-clause-options c = record { begin = c.loop-options.invariant; ends = front_read _ c.loop-options.options _ c.in-Ok-None.ensures.front ∙ ap (λ f. Ok f) c.in-Ok-None.field-0-is }

pub returns-in-Err-clause-misread : goal.returns-in-Err-clause-misread
returns-in-Err-clause-misread c = record { options = c.loop-options.options; begin = c.loop-options.invariant; ends = front_read _ c.loop-options.options _ c.in-Err.ensures.front }

pub returns-clause-options : goal.returns-clause-options
returns-clause-options c = record { begin = c.loop-options.invariant; ends = all_read _ c.loop-options.options c.loop-options-test.false }

pub loop-options-preserved : goal.loop-options-preserved
loop-options-preserved c = one_read _ c.loop-options.options _ (c.in-Ok-Some.item, c.in-Ok-Some.count) c.loop-options.invariant (ap (λ f. Ok f) (sym c.in-Ok-Some.field-0-is) ∙ c.in-Ok-Some.ensures.front) c.with_item-options.ensures
