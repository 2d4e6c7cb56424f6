-- One edit after the other.
use Rattle.std.proofs.Common.{◌≡◌, ℕ, ◌+◌, ◌<◌, ◌-◌, List, Bor, length, map, take, drop, sym, subst, ap, ◌∙◌, arith, length-drop, take_all}
use Rattle.std.proofs.lemmas.Grind.{common_steps}
use Rattle.std.proofs.lemmas.List.{drop-map, drop-drop, drop_all, length-map}
use Rattle.frame_edits.specs.Lists.{AreEdits, Adds, NeedsMemory, plain}
use Rattle.frame_edits.specs.declared.lists.Edits.{Edits}
use Rattle.frame_edits.proofs.EditsEach.{Taken, first_taken, needs_taken, adds_more, adds_nothing, edits_left, none_at, begins_taken, restored}
use Rattle.frame_edits.proofs.lists.Edits.add_all.Goals as goal

pub loop-at-preserved : goal.loop-at-preserved
loop-at-preserved c =
    let ws : List (List ℕ) = map (λ w. w.now) c.args.words.now in
    let at : ℕ = c.loop-at.at in
    let n : ℕ = c.in-Ok.count in
    let old : Edits = c.loop-at.self in
    let mid : Edits = c.take.new.self in
    let words : List (Bor (List ℕ)) = c.args.words.now in
    let count : ℕ = length words - at in
    let here : drop at ws ≡ map (λ w. w.now) (take count (drop at words)) =
    drop-map (λ (w : Bor (List ℕ)). w.now) at words ∙ ap (λ (l : List (Bor (List ℕ))). map (λ w. w.now) l) (sym (take_all count (drop at words) (omega (arith, length-drop at words)))) in
    let some : 0 < length (drop at ws) = omega (arith, length-drop at ws, length-map c.args.words.now (λ w. w.now)) in
    let taken : Taken (drop at ws) old mid n = subst (λ (l : List (List ℕ)). Taken l old mid n) (sym here) c.in-Ok.ensures.taken in
    let further : drop n (drop at ws) ≡ drop (at + n) ws = drop-drop n at ws in
    record {
      front = begins_taken (drop at ws) c.args.self.now old mid n c.loop-at.invariant.front taken;
      within = omega (arith, length-drop at words, c.in-Ok.ensures.there);
      same = λ none. absurd (omega (arith, c.in-Ok.ensures.some, none));
      first = λ past none. first_taken ws at old.framing c.args.self.now.framing c.loop-at.invariant.same c.loop-at.invariant.first (needs_taken (drop at ws) old mid n taken c.in-Ok.ensures.last none);
      more = λ new adds. c.loop-at.invariant.more new (adds_more (drop at ws) old mid new n taken c.in-Ok.ensures.last (subst (λ (l : List (List ℕ)). Adds l mid new) (sym further) adds));
      less = λ edits are.
          let left = c.loop-at.invariant.less edits are in
          let one = edits_left (drop at ws) old mid n left.0 taken some left.1 in
          (one.0, subst (AreEdits one.0 mid.framing) further one.1);
    }

pub returns-in-Err-clause-none : goal.returns-in-Err-clause-none
returns-in-Err-clause-none c fault edits are = grind (arith, length-drop, take_all, drop-map, length-map, none_at)

pub returns-in-Err-clause-memory : goal.returns-in-Err-clause-memory
returns-in-Err-clause-memory c fault =
    let ws : List (List ℕ) = map (λ w. w.now) c.args.words.now in
    let at : ℕ = c.loop-at.at in
    let words : List (Bor (List ℕ)) = c.args.words.now in
    let count : ℕ = length words - at in
    let here : drop at ws ≡ map (λ w. w.now) (take count (drop at words)) =
    drop-map (λ (w : Bor (List ℕ)). w.now) at words ∙ ap (λ (l : List (Bor (List ℕ))). map (λ w. w.now) l) (sym (take_all count (drop at words) (omega (arith, length-drop at words)))) in
    first_taken ws at c.loop-at.self.framing c.args.self.now.framing c.loop-at.invariant.same c.loop-at.invariant.first (subst (λ (l : List (List ℕ)). NeedsMemory c.loop-at.self.framing l) (sym here) (c.in-Err.ensures.memory fault))

pub returns-in-Err-clause-same : goal.returns-in-Err-clause-same
returns-in-Err-clause-same c =
    restored (plain c.args.self.now) (plain c.loop-at.self) (plain c.restore.new.self) c.len-steps.result c.loop-at.invariant.front (grind (arith, common_steps)) (c.restore.ensures.steps ∙ ap (take c.len-steps.result) c.in-Err.ensures.same_steps) c.restore.ensures.framing

pub returns-clause-adds : goal.returns-clause-adds
returns-clause-adds c =
    let ws : List (List ℕ) = map (λ w. w.now) c.args.words.now in
    c.loop-at.invariant.more c.loop-at.self (adds_nothing (drop c.loop-at.at ws) c.loop-at.self (drop_all c.loop-at.at ws (omega (arith, length-map c.args.words.now (λ w. w.now)))))
