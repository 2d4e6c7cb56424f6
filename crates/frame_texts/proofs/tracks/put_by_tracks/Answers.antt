use Rattle.std.proofs.Common.{rules}
use Rattle.std.proofs.lemmas.List.Sorted.{All-permutation, IsPermutation-trans, answers_always, ties_still_rise, IsNonDecreasingBy-from_sort_by_key}
use Rattle.frame_texts.specs.Boxes.{IsBox}
use Rattle.frame_texts.specs.Tracks.{track_of}
use Rattle.frame_texts.proofs.Ties.{ties_kept}
use Rattle.frame_texts.proofs.tracks.put_by_tracks.Goals as goal

pub returns-clause-by_tracks : goal.returns-clause-by_tracks
returns-clause-by_tracks c = record {
  tracks = IsNonDecreasingBy-from_sort_by_key track_of _ c.in_ok-sort_by_key-2.ensures.sorted (λ a r q k. search rules);
  frames = ties_still_rise (λ b. b.frame) track_of _ _ (c.in_ok-sort_by_key.ensures.sorted (λ b. b.frame) (answers_always _ _ _ (λ f a r g h. search rules)))
      (c.sort_by_key-2.ensures.stable track_of (answers_always _ _ _ (λ f a r g h. search rules)));
}

pub returns-clause-ties : goal.returns-clause-ties
returns-clause-ties c = ties_kept _ _ _
    (c.in_ok-sort_by_key.ensures.stable (λ b. b.frame) (answers_always _ _ _ (λ f a r g h. search rules)))
    (c.sort_by_key-2.ensures.stable track_of (answers_always _ _ _ (λ f a r g h. search rules)))

pub returns-clause-same : goal.returns-clause-same
returns-clause-same c = IsPermutation-trans _ _ _ c.sort_by_key.ensures.permutation c.sort_by_key-2.ensures.permutation

pub returns-clause-tracked : goal.returns-clause-tracked
returns-clause-tracked c all = All-permutation (IsBox 32) _ _ c.sort_by_key-2.ensures.permutation (All-permutation (IsBox 32) _ _ c.sort_by_key.ensures.permutation all)

pub returns-in_err-sort_by_key-2-clause-tracked : goal.returns-in_err-sort_by_key-2-clause-tracked
returns-in_err-sort_by_key-2-clause-tracked c all = All-permutation (IsBox 32) _ _ c.sort_by_key-2.ensures.permutation (All-permutation (IsBox 32) _ _ c.sort_by_key.ensures.permutation all)
