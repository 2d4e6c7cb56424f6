use Rattle.std.proofs.Common.{rules}
use Rattle.std.proofs.lemmas.List.Sorted.{answers_always, IsNonDecreasingBy-from_sort_by_key}
use Rattle.frame_edits.specs.BoxCovers.{first_of}
use Rattle.frame_edits.proofs.box_covers.put_in_order.Goals as goal

pub returns-clause-in_order : goal.returns-clause-in_order
returns-clause-in_order c = IsNonDecreasingBy-from_sort_by_key first_of _ c.in_ok-sort_by_key.ensures.sorted (λ a r q k. search rules)

pub returns-clause-stable : goal.returns-clause-stable
returns-clause-stable c = c.sort_by_key.ensures.stable first_of (answers_always _ _ _ (λ f a r g h. search rules))

pub returns-in_err-sort_by_key-clause-stable : goal.returns-in_err-sort_by_key-clause-stable
returns-in_err-sort_by_key-clause-stable c = c.sort_by_key.ensures.stable first_of (answers_always _ _ _ (λ f a r g h. search rules))
