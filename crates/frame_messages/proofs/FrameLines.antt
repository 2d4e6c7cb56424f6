-- The lines of frames, one after the other.
use Rattle.std.proofs.Common.{◌≡◌, ℕ, zero, suc, ◌+◌, List, [], ◌∷◌, ◌++◌, Option, Some, None, sym, ap, ◌∙◌, subst, arith}
use Rattle.std.specs.List.{filter, flat_map, range_with_len}
use Rattle.std.specs.Io.KnownBytes.{Appends}
use Rattle.std.proofs.KnownBytes.{Appends-nil, Appends-trans}
use Rattle.std.proofs.lemmas.List.{flat_map_more}
use Rattle.frame_edits.specs.declared.framing.Framing.{Framing}
use Rattle.frame_messages.specs.Report.{frame_text, has_frame, line_text, placed}
use Rattle.frame_messages.specs.declared.report.Span.{Span}
use Rattle.frame_requests.specs.Seen.{shape_at}
use Rattle.frame_requests.specs.declared.seen.Shape.{Shape}

range_more : (a n : ℕ) → range_with_len a (suc n) ≡ range_with_len a n ++ (a + n) ∷ []
range_more a zero = let same : a ≡ a + 0 = omega arith in ap (λ k. k ∷ []) same
range_more a (suc n) = let same : a + 1 + n ≡ a + suc n = omega arith in ap (λ l. a ∷ l) (range_more (a + 1) n ∙ ap (λ k. range_with_len (a + 1) n ++ k ∷ []) same)

module _ (flips : List Span) (framing : Option Framing) (spans : List Span) (shapes : List (ℕ × Shape)) where
  abbrev pub text_at : ℕ → List ℕ
  text_at n = frame_text flips framing spans n (shape_at shapes n)

  frames_more : (n : ℕ) (a b c : Option (List ℕ)) → Appends a b (flat_map text_at (range_with_len 0 n)) → Appends b c (text_at n) → Appends a c (flat_map text_at (range_with_len 0 (n + 1)))
  frames_more n a b c so_far more =
      let one : range_with_len 0 (n + 1) ≡ range_with_len 0 n ++ n ∷ [] = (let next : n + 1 ≡ suc n = omega arith in ap (range_with_len 0) next ∙ range_more 0 n ∙ (let same : 0 + n ≡ n = omega arith in ap (λ k. range_with_len 0 n ++ k ∷ []) same)) in
      let all : flat_map text_at (range_with_len 0 n) ++ text_at n ≡ flat_map text_at (range_with_len 0 (n + 1)) = flat_map_more text_at [] (range_with_len 0 n) n ∙ ap (flat_map text_at) (sym one) in
      subst (Appends a c) all (Appends-trans a b c _ _ so_far more)

  -- a frame whose lines are written
  pub frame_written : (n : ℕ) (a b c : Option (List ℕ)) (shape : Shape) (now : List Span) → Some shape ≡ shape_at shapes n → now ≡ filter (has_frame n) spans → Appends a b (flat_map text_at (range_with_len 0 n)) → Appends b c (flat_map (λ s. line_text n (placed flips framing shape n s)) now) → Appends a c (flat_map text_at (range_with_len 0 (n + 1)))
  frame_written n a b c shape now there these so_far more =
      frames_more n a b c so_far (subst (λ (o : Option Shape). Appends b c (frame_text flips framing spans n o)) there (subst (λ (l : List Span). Appends b c (flat_map (λ s. line_text n (placed flips framing shape n s)) l)) these more))

  -- and one without a shape
  pub frame_passed : (n : ℕ) (a b : Option (List ℕ)) → None ≡ shape_at shapes n → Appends a b (flat_map text_at (range_with_len 0 n)) → Appends a b (flat_map text_at (range_with_len 0 (n + 1)))
  frame_passed n a b none so_far = frames_more n a b b so_far (subst (λ (o : Option Shape). Appends b b (frame_text flips framing spans n o)) none (Appends-nil b))
