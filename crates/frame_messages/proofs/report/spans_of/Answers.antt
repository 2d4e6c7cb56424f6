-- They are sorted by their first frames.
use Rattle.std.proofs.Common.{rules}
use Rattle.std.proofs.lemmas.List.Sorted.{answers_always, IsNonDecreasingBy-from_sort_by_key}
use Rattle.frame_messages.specs.Report.{first_in}
use Rattle.frame_messages.proofs.report.spans_of.Goals as goal

pub returns : goal.returns
returns c = record {
  same = search rules;
  stable = rw c.in_ok-spans.ensures at c.sort_by_key.ensures.stable first_in (answers_always _ _ _ (λ f a r g h. search rules));
  in_order = IsNonDecreasingBy-from_sort_by_key first_in _ c.in_ok-sort_by_key.ensures.sorted (λ a r q k. search rules);
}
