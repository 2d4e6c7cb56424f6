-- Edits that are taken from words one after the other.
use Rattle.std.proofs.Common.{◌≡◌, ◌==◌, if◌then◌else◌, ◌≢◌, ℕ, zero, suc, ◌<◌, List, [], ◌∷◌, ◌++◌, Option, Some, None, true, false, eqb, length, take, drop, refl, sym, ap, ◌∙◌, subst, arith, append_assoc, append-nil, inl, inr}
use Rattle.std.specs.List.{flat_map}
use Rattle.std.proofs.Math.Seq.{take-append_seam}
use Rattle.std.specs.Option.{is_some, option_map}
use Rattle.std.proofs.lemmas.Bool.Decides.{eqb_tells}
use Rattle.texts.proofs.Options.{some_is, map_some}
use Rattle.frame_edits.specs.declared.words.Edit.{Edit}
use Rattle.frame_edits.specs.declared.framing.Framing.{Framing}
use Rattle.frame_edits.specs.declared.lists.Edits.{Edits}
use Rattle.frame_edits.specs.declared.found.Found.{Found}
use Rattle.frame_edits.specs.Lists.{AreEdits, Adds, HaveEdits, NeedsMemory, framing_after, edit_of, with_one, with_words, with_line, with_lines, plain, IsEditLine, NeedsPlace, named_of}
use Rattle.frame_texts.specs.Lines.{line_words}
use Rattle.frame_edits.specs.Edits.{edits, Edits as Plain}
use Rattle.texts.specs.Reading.{◌>>=◌}
use Rattle.std.specs.Prelude.{IfSome}
use Rattle.frame_edits.specs.Words.{Named, edit_at, framing_at, named, ranged_at, with_edit}

-- what is known of edits before and after one was taken from words
abbrev pub Taken : List (List ℕ) → Edits → Edits → ℕ → Type 0
Taken words old new n = option_map (with_edit old.steps.items) (edit_at words) ≡ Some (new.steps.items, (new.framing, n))

-- one edit at the front, and then others
pub adds_more : (words : List (List ℕ)) (old mid new : Edits) (n : ℕ) → Taken words old mid n → old.framing ≡ None → Adds (drop n words) mid new → Adds words old new
adds_more words old mid new n taken first more =
    let m = map_some (edit_at words) (with_edit old.steps.items) (mid.steps.items, (mid.framing, n)) taken in
    let e : Named = m.0 in
    let steps : old.steps.items ++ e.steps ≡ mid.steps.items = ap (λ (t : List Edit × (Option Framing × ℕ)). t.0) m.2 in
    let framing : e.framing ≡ mid.framing = ap (λ (t : List Edit × (Option Framing × ℕ)). t.1.0) m.2 in
    let count : e.count ≡ n = ap (λ (t : List Edit × (Option Framing × ℕ)). t.1.1) m.2 in
    record {
      edits = e ∷ more.edits;
      are = (first, m.1, subst (λ (f : Option Framing). AreEdits more.edits f (drop e.count words)) (sym framing) (subst (λ (k : ℕ). AreEdits more.edits mid.framing (drop k words)) (sym count) more.are));
      steps = more.steps ∙ ap (λ (l : List Edit). l ++ flat_map (λ (x : Named). x.steps) more.edits) (sym steps) ∙ append_assoc old.steps.items e.steps (flat_map (λ (x : Named). x.steps) more.edits);
      framing = more.framing ∙ ap (framing_after more.edits) (sym framing);
    }

-- no words left
pub adds_nothing : (words : List (List ℕ)) (old : Edits) → words ≡ [] → Adds words old old
adds_nothing words old none = record { edits = []; are = none; steps = sym (append-nil old.steps.items); framing = refl }

-- edits that some words are, without the one at the front that was taken
pub edits_left : (words : List (List ℕ)) (old mid : Edits) (n : ℕ) (es : List Named) → Taken words old mid n → 0 < length words → AreEdits es old.framing words → (rest : List Named) × AreEdits rest mid.framing (drop n words)
edits_left words old mid n [] taken some are = absurd (let none : length words ≡ 0 = ap length are in omega (arith, none, some))
edits_left words old mid n (e ∷ es) taken some are = grind (arith, some_is, map_some)

-- words with no edit at the front are no edits
pub none_at : (words : List (List ℕ)) (old : Edits) (es : List Named) → (old.framing ≡ None → edit_at words ≡ None) → 0 < length words → AreEdits es old.framing words → ⊥
none_at words old [] none some are = let empty : length words ≡ 0 = ap length are in absurd (omega (arith, empty, some))
none_at words old (e ∷ es) none some are = let bad : Some e ≡ None = sym are.1 ∙ none are.0 in absurd cc

-- an edit that isn't of the size has a step
has_step : (f : Option (Framing × ℕ)) (s : Option (Edit × ℕ)) (e : Named) → named f s ≡ Some e → e.framing ≡ None → e.steps ≢ []
has_step (Some f) s e is none = absurd (let size : Some f.0 ≡ None = ap (λ (n : Named). n.framing) (some_is (record { steps = []; framing = Some f.0; count = f.1 }) e is) ∙ none in cc)
has_step None (Some s) e is none = subst (λ (n : Named). n.steps ≢ []) (some_is (record { steps = s.0 ∷ []; framing = None; count = s.1 }) e is) (λ same. absurd cc)
has_step None None e is none = absurd cc

-- an edit was taken that isn't of the size, so there was a place for it
pub needs_taken : (words : List (List ℕ)) (old new : Edits) (n : ℕ) → Taken words old new n → old.framing ≡ None → new.framing ≡ None → NeedsMemory old.framing words
needs_taken words old new n taken first none =
    let m = map_some (edit_at words) (with_edit old.steps.items) (new.steps.items, (new.framing, n)) taken in
    let framing : m.0.framing ≡ new.framing = ap (λ (t : List Edit × (Option Framing × ℕ)). t.1.0) m.2 in
    let step : m.0.steps ≢ [] = has_step (framing_at words) (ranged_at words) m.0 m.1 (framing ∙ none) in
    (first, (λ nothing. let both : Some m.0 ≡ None = sym m.1 ∙ nothing in absurd cc), subst (λ (o : Option Named). IfSome o (λ e. e.steps ≢ [])) (sym m.1) step)

-- words need it from the first of them on
pub first_taken : (words : List (List ℕ)) (at : ℕ) (framing before : Option Framing) → (at ≡ 0 → framing ≡ before) → (0 < at → framing ≡ None → NeedsMemory before words) → NeedsMemory framing (drop at words) → NeedsMemory before words
first_taken words zero framing before same so_far here = (sym (same refl) ∙ here.0, here.1, here.2)
first_taken words (suc at) framing before same so_far here = so_far (omega arith) here.0

-- ---- lines that need memory

-- an edit, after no line
pub place_here : (old : Plain) (line : List ℕ) (left lines : List (List ℕ)) → left ≡ line ∷ lines → IsEditLine old line → NeedsPlace old left
place_here old line left lines is edit = record { before = []; line = line; others = lines; lines_are = is; made = old; good = refl; edit = edit }

-- an edit, after this line too
pub place_later : (old mid : Plain) (line : List ℕ) (left lines : List (List ℕ)) → left ≡ line ∷ lines → with_line old line ≡ Some mid → NeedsPlace mid lines → NeedsPlace old left
place_later old mid line left lines is taken p = record {
  before = line ∷ p.before;
  line = p.line;
  others = p.others;
  lines_are = is ∙ ap (λ l. line ∷ l) p.lines_are;
  made = p.made;
  good = ap (λ (o : Option Plain). o >>= λ new. with_lines new p.before) taken ∙ p.good;
  edit = p.edit;
}

-- ---- words that are one edit

same_eqb : (a b : ℕ) → a ≡ b → eqb a b ≡ true
same_eqb a b e = elim (eqb_tells a b) [ inl t ↦ t.0 | inr t ↦ absurd (t.1 e) ]

other_eqb : (a b : ℕ) → (a ≡ b → ⊥) → eqb a b ≡ false
other_eqb a b e = elim (eqb_tells a b) [ inl t ↦ absurd (e t.1) | inr t ↦ t.0 ]

-- the edit at the front has all words
pub words_one : (words : List (List ℕ)) (found : Found) (n : ℕ) → edit_at words ≡ Some (named_of found n) → n ≡ length words → edit_of words ≡ Some (named_of found (length words))
words_one words found n is all = grind (arith, same_eqb)

-- it has fewer
pub words_fewer : (words : List (List ℕ)) (found : Found) (n : ℕ) → edit_at words ≡ Some (named_of found n) → (n ≡ length words → ⊥) → edit_of words ≡ None
words_fewer words found n is fewer = grind (arith, other_eqb)

-- there is none
pub words_none : (words : List (List ℕ)) → edit_at words ≡ None → edit_of words ≡ None
words_none words none = ap (λ (o : Option Named). o >>= λ e. if e.count == length words then Some e else None) none

-- ---- words that are edits

-- one edit at the front, and then others
pub edits_more : (words : List (List ℕ)) (framing : Option Framing) (e : Named) → framing ≡ None → edit_at words ≡ Some e → HaveEdits e.framing (drop e.count words) → HaveEdits framing words
edits_more words framing e first is more = (e ∷ more.0, (first, is, more.1))

-- edits that some words are, without the one at the front
pub edits_fewer : (words : List (List ℕ)) (framing : Option Framing) (e : Named) (es : List Named) → edit_at words ≡ Some e → 0 < length words → AreEdits es framing words → HaveEdits e.framing (drop e.count words)
edits_fewer words framing e [] is some are = absurd (let none : length words ≡ 0 = ap length are in omega (arith, none, some))
edits_fewer words framing e (x ∷ xs) is some are =
    let same : x ≡ e = some_is x e (sym are.1 ∙ is) in
    (xs, subst (λ (n : Named). AreEdits xs n.framing (drop n.count words)) same are.2)

-- there are none where the first words are no edit, or come after a crop or a pad
pub no_edits : (words : List (List ℕ)) (framing : Option Framing) (es : List Named) → edit_at words ≡ None → 0 < length words → AreEdits es framing words → ⊥
no_edits words framing [] none some are = absurd (let empty : length words ≡ 0 = ap length are in omega (arith, empty, some))
no_edits words framing (e ∷ es) none some are = let bad : Some e ≡ None = sym are.1 ∙ none in absurd cc

pub no_room : (words : List (List ℕ)) (framing : Option Framing) (es : List Named) → is_some framing ≡ true → 0 < length words → AreEdits es framing words → ⊥
no_room words framing [] late some are = absurd (let empty : length words ≡ 0 = ap length are in omega (arith, empty, some))
no_room words framing (e ∷ es) late some are = let bad : true ≡ false = sym late ∙ ap is_some are.0 in absurd cc

pub none_of : {A : Type 0} (found : Option A) → is_some found ≡ false → found ≡ None
none_of None bad = refl
none_of (Some x) bad = absurd cc

-- ---- lines

pub one_line_more : (old mid : Plain) (line : List ℕ) (left lines : List (List ℕ)) → left ≡ line ∷ lines → with_line old line ≡ Some mid → with_lines mid lines ≡ with_lines old left
one_line_more old mid line left lines is taken = sym (ap (with_lines old) is ∙ ap (λ (o : Option Plain). o >>= λ new. with_lines new lines) taken)

pub bad_line : (old : Plain) (line : List ℕ) (left lines : List (List ℕ)) → left ≡ line ∷ lines → with_line old line ≡ None → with_lines old left ≡ None
bad_line old line left lines is none = ap (with_lines old) is ∙ ap (λ (o : Option Plain). o >>= λ new. with_lines new lines) none

-- ---- edits that begin with others

-- the first edits' steps are at the front of the others'
pub record Begins (old new : Plain) : Type 0 where
  pub more : List Edit
  pub steps : new.steps ≡ old.steps ++ more

behind_more : (old mid new : Plain) (more : List Edit) → Begins old mid → new.steps ≡ mid.steps ++ more → Begins old new
behind_more old mid new more b steps = record { more = b.more ++ more; steps = steps ∙ ap (λ l. l ++ more) b.steps ∙ append_assoc old.steps b.more more }

pub begins_taken : (words : List (List ℕ)) (first old mid : Edits) (n : ℕ) → Begins (plain first) (plain old) → Taken words old mid n → Begins (plain first) (plain mid)
begins_taken words first old mid n b taken =
    let m = map_some (edit_at words) (with_edit old.steps.items) (mid.steps.items, (mid.framing, n)) taken in
    behind_more (plain first) (plain old) (plain mid) m.0.steps b (sym (ap (λ (t : List Edit × (Option Framing × ℕ)). t.0) m.2))

behind_one : (framing : Option Framing) (steps : List Edit) (new : Plain) (words : List (List ℕ)) → with_one (edits steps framing) words ≡ Some new → (more : List Edit) × (new.steps ≡ steps ++ more)
behind_one None steps new words is = let m = map_some (edit_of words) (λ e. edits (steps ++ e.steps) e.framing) new is in (m.0.steps, sym (ap (λ (p : Plain). p.steps) m.2))
behind_one (Some f) steps new words is = absurd cc

begins_words : (first old new : Plain) (words : List (List ℕ)) → Begins first old → with_words old words ≡ Some new → Begins first new
begins_words first old new [] b is = record { more = b.more; steps = ap (λ (p : Plain). p.steps) (sym (some_is old new is)) ∙ b.steps }
begins_words first old new (w ∷ ws) b is = let one = behind_one old.framing old.steps new (w ∷ ws) is in behind_more first old new one.0 b one.1

pub begins_line : (first old new : Plain) (line : List ℕ) → Begins first old → with_line old line ≡ Some new → Begins first new
begins_line first old new line b is = begins_words first old new (line_words line) b is

-- as many steps as the first have are theirs
pub restored : (old mid new : Plain) (count : ℕ) → Begins old mid → count ≡ length old.steps → new.steps ≡ take count mid.steps → new.framing ≡ old.framing → new ≡ old
restored old mid new count b counted steps framing =
    let same : take count mid.steps ≡ old.steps = (λ i. take (counted i) (b.steps i)) ∙ take-append_seam old.steps b.more in
    λ i. edits ((steps ∙ same) i) (framing i)
