-- Edits with their frames, one after the other.
use Rattle.std.proofs.Common.{◌≡◌, ◌<◌, ◌≤◌, ◌+◌, ℕ, Bool, true, false, if◌then◌else◌, List, [], ◌∷◌, ◌++◌, Option, Some, None, length, drop, get_or, sym, ap, ◌∙◌, append_assoc, append-nil}
use Rattle.std.proofs.lemmas.List.{at_drop_all, at_drop_more}
use Rattle.image_shape.specs.declared.window.Window.{Window}
use Rattle.frame_edits.specs.declared.words.Edit.{Edit}
use Rattle.frame_texts.specs.declared.rate.Rate.{Rate}
use Rattle.frame_messages.specs.Report.{comes_after, cons_some, moved, moved_by, span_if, spans_from}
use Rattle.frame_messages.specs.declared.report.Span.{Span}

module _ (is : Edit → Bool) (rate : Option Rate) (got : List Span) (steps : List Edit) (at : ℕ) (d : Edit) (total : List Span) where
  one : at < length steps → spans_from is rate at (drop at steps) ≡ cons_some (span_if (is (get_or steps at d)) rate at (get_or steps at d)) (spans_from is rate (at + 1) (drop (at + 1) steps))
  one within = at_drop_more (spans_from is rate at) steps at d within

  -- this edit is such, and has frames
  pub span_kept : (s : Span) → at < length steps → span_if (is (get_or steps at d)) rate at (get_or steps at d) ≡ Some s → got ++ spans_from is rate at (drop at steps) ≡ total → (got ++ s ∷ []) ++ spans_from is rate (at + 1) (drop (at + 1) steps) ≡ total
  span_kept s within here so_far =
      let rest = spans_from is rate (at + 1) (drop (at + 1) steps) in
      append_assoc got (s ∷ []) rest ∙ ap (λ (o : Option Span). got ++ cons_some o rest) (sym here) ∙ sym (ap (λ l. got ++ l) (one within)) ∙ so_far

  -- it isn't, or has none
  pub span_passed : at < length steps → span_if (is (get_or steps at d)) rate at (get_or steps at d) ≡ None → got ++ spans_from is rate at (drop at steps) ≡ total → got ++ spans_from is rate (at + 1) (drop (at + 1) steps) ≡ total
  span_passed within here so_far =
      let rest = spans_from is rate (at + 1) (drop (at + 1) steps) in
      ap (λ (o : Option Span). got ++ cons_some o rest) (sym here) ∙ sym (ap (λ l. got ++ l) (one within)) ∙ so_far

-- all were looked at
pub spans_done : (is : Edit → Bool) (rate : Option Rate) (got : List Span) (steps : List Edit) (at : ℕ) (total : List Span) → length steps ≤ at → got ++ spans_from is rate at (drop at steps) ≡ total → got ≡ total
spans_done is rate got steps at total past so_far = sym (append-nil got) ∙ sym (at_drop_all (λ l. got ++ spans_from is rate at l) steps at past) ∙ so_far

-- ---- flips, one after the other

module _ (flips : List Span) (size : ℕ × ℕ) (n at : ℕ) (w : Window) (i : ℕ) (d : Span) (total : Window) where
  next : i < length flips → moved (drop i flips) size n at w ≡ moved (drop (i + 1) flips) size n at (if comes_after at n (get_or flips i d) then moved_by (get_or flips i d).edit.change size w else w)
  next within = at_drop_more (λ l. moved l size n at w) flips i d within

  pub flip_moved : i < length flips → comes_after at n (get_or flips i d) ≡ true → moved (drop i flips) size n at w ≡ total → moved (drop (i + 1) flips) size n at (moved_by (get_or flips i d).edit.change size w) ≡ total
  flip_moved within here so_far = ap (λ (b : Bool). moved (drop (i + 1) flips) size n at (if b then moved_by (get_or flips i d).edit.change size w else w)) (sym here) ∙ sym (next within) ∙ so_far

  pub flip_passed : i < length flips → comes_after at n (get_or flips i d) ≡ false → moved (drop i flips) size n at w ≡ total → moved (drop (i + 1) flips) size n at w ≡ total
  flip_passed within here so_far = ap (λ (b : Bool). moved (drop (i + 1) flips) size n at (if b then moved_by (get_or flips i d).edit.change size w else w)) (sym here) ∙ sym (next within) ∙ so_far

pub flips_done : (flips : List Span) (size : ℕ × ℕ) (n at : ℕ) (w : Window) (i : ℕ) (total : Window) → length flips ≤ i → moved (drop i flips) size n at w ≡ total → w ≡ total
flips_done flips size n at w i total past so_far = sym (at_drop_all (λ l. moved l size n at w) flips i past) ∙ so_far
