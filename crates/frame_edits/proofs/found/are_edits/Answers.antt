-- One edit after the other.
use Rattle.std.proofs.Common.{◌≡◌, ◌-◌, ◌<◌, ℕ, ◌+◌, List, Bor, Option, Some, None, length, map, take, drop, sym, subst, ap, ◌∙◌, arith, length-drop, take_all}
use Rattle.std.proofs.lemmas.List.{drop-map, drop-drop, length-map}
use Rattle.frame_edits.specs.Lists.{HaveEdits, named_of}
use Rattle.frame_edits.specs.Words.{Named, edit_at}
use Rattle.frame_edits.specs.declared.framing.Framing.{Framing}
use Rattle.frame_edits.proofs.EditsEach.{edits_fewer, edits_more, no_edits, no_room, none_of}
use Rattle.frame_edits.proofs.found.are_edits.Goals as goal

-- the words from a place on
from_place : (words : List (Bor (List ℕ))) (at : ℕ) → drop at (map (λ (w : Bor (List ℕ)). w.now) words) ≡ map (λ w. w.now) (take (length words - at) (drop at words))
from_place words at = drop-map (λ (w : Bor (List ℕ)). w.now) at words ∙ ap (λ (l : List (Bor (List ℕ))). map (λ w. w.now) l) (sym (take_all (length words - at) (drop at words) (omega (arith, length-drop at words))))

some_left : (words : List (Bor (List ℕ))) (at : ℕ) → at < length words → 0 < length (drop at (map (λ (w : Bor (List ℕ)). w.now) words))
some_left words at left = omega (arith, left, length-drop at (map (λ (w : Bor (List ℕ)). w.now) words), length-map words (λ (w : Bor (List ℕ)). w.now))

pub returns-then-is_some-clause-none : goal.returns-then-is_some-clause-none
returns-then-is_some-clause-none c told es are =
    let ws : List (List ℕ) = map (λ w. w.now) c.args.words.now in
    let left = c.loop-at.invariant.less es are in
    no_room (drop c.loop-at.at ws) c.loop-at.before left.0 (sym c.is_some.ensures ∙ c.if-is_some.true) (some_left c.args.words.now c.loop-at.at (omega arith)) left.1

pub returns-in_default-clause-none : goal.returns-in_default-clause-none
returns-in_default-clause-none c told es are =
    let ws : List (List ℕ) = map (λ w. w.now) c.args.words.now in
    let left = c.loop-at.invariant.less es are in
    no_edits (drop c.loop-at.at ws) c.loop-at.before left.0 (ap edit_at (from_place c.args.words.now c.loop-at.at) ∙ sym c.in_default.ensures.edit) (some_left c.args.words.now c.loop-at.at (omega arith)) left.1

pub loop-at-preserved : goal.loop-at-preserved
loop-at-preserved c =
    let ws : List (List ℕ) = map (λ w. w.now) c.args.words.now in
    let at : ℕ = c.loop-at.at in
    let n : ℕ = c.in-Some.count in
    let e : Named = named_of c.in-Some.found n in
    let is : edit_at (drop at ws) ≡ Some e = ap edit_at (from_place c.args.words.now at) ∙ sym c.in-Some.ensures.edit in
    let further : drop n (drop at ws) ≡ drop (at + n) ws = drop-drop n at ws in
    let size : e.framing ≡ c.framing_of-before.result = sym c.framing_of-before.ensures in
    let first : c.loop-at.before ≡ None = none_of c.loop-at.before (sym c.is_some.ensures ∙ c.if-is_some.false) in
    record {
      within = omega (arith, length-drop at c.args.words.now, c.in-Some.ensures.there);
      more = λ rest. c.loop-at.invariant.more (edits_more (drop at ws) c.loop-at.before e first is (subst (HaveEdits e.framing) (sym further) (subst (λ (f : Option Framing). HaveEdits f (drop (at + n) ws)) (sym size) rest)));
      less = λ es are.
          let left = c.loop-at.invariant.less es are in
          subst (λ (f : Option Framing). HaveEdits f (drop (at + n) ws)) size (subst (HaveEdits e.framing) further (edits_fewer (drop at ws) c.loop-at.before e left.0 is (some_left c.args.words.now at (omega arith)) left.1));
    }
