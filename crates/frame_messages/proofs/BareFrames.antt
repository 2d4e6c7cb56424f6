-- Frames without a box, one stretch after the other.
use Rattle.std.proofs.Common.{◌≡◌, ◌≤◌, ◌<◌, ◌+◌, ◌-◌, ◌⊎◌, ◌||◌, ℕ, zero, suc, not, List, [], ◌∷◌, Option, Some, None, length, take, drop, get_or, Bool, true, false, if◌then◌else◌, nat_lt, min, max, refl, sym, ap, ◌∙◌, subst, inl, inr, arith}
use Rattle.std.specs.List.{list_any}
use Rattle.std.proofs.lemmas.Bool.{cases_lt}
use Rattle.std.proofs.lemmas.List.{drop_more, drop_all}
use Rattle.std.proofs.lemmas.List.Folds.{list_any_at, list_any_more}
use Rattle.frame_messages.specs.Bare.{AreBare, AreCounted, AreInOrder, BeginsFrom, BeginFrom, BeginAfter, bare_count, box_span, is_bare, is_in}
use Rattle.frame_edits.specs.declared.words.Edit.{Edit}
use Rattle.frame_messages.specs.declared.report.Bare.{Bare}

pub count_at : (p : ℕ → Bool) (n : ℕ) (b : Bool) → p n ≡ b → bare_count p (suc n) ≡ (if b then bare_count p n + 1 else bare_count p n)
count_at p n b is = ap (λ (v : Bool). if v then bare_count p n + 1 else bare_count p n) is

count_small : (p : ℕ → Bool) (n : ℕ) → bare_count p n ≤ n
count_small p zero = omega arith
count_small p (suc n) = elim (p n) as (λ v. (if v then bare_count p n + 1 else bare_count p n) ≤ suc n) [ true ↦ omega (arith, count_small p n) | false ↦ omega (arith, count_small p n) ]

count_yes : (p : ℕ → Bool) (at n : ℕ) → at ≤ n → AreBare p at n → bare_count p n ≡ bare_count p at + (n - at)
count_yes p at zero le are = let e : at ≡ zero = omega (arith, le) in subst (λ a. bare_count p zero ≡ bare_count p a + (zero - a)) (sym e) (omega arith)
count_yes p at (suc n) le are = elim (cases_lt n at) [
  | inl past ↦ (let e : at ≡ suc n = omega (arith, le, past) in subst (λ a. bare_count p (suc n) ≡ bare_count p a + (suc n - a)) (sym e) (omega arith))
  | inr more ↦ omega (arith, more, count_yes p at n more (λ k from before. are k from (omega (arith, before))), count_at p n true (are n more (omega arith)))
]

count_no : (p : ℕ → Bool) (at n : ℕ) → at ≤ n → ((k : ℕ) → at ≤ k → k < n → p k ≡ false) → bare_count p n ≡ bare_count p at
count_no p at zero le are = let e : at ≡ zero = omega (arith, le) in subst (λ a. bare_count p zero ≡ bare_count p a) (sym e) refl
count_no p at (suc n) le are = elim (cases_lt n at) [
  | inl past ↦ (let e : at ≡ suc n = omega (arith, le, past) in subst (λ a. bare_count p (suc n) ≡ bare_count p a) (sym e) refl)
  | inr more ↦ count_at p n false (are n more (omega arith)) ∙ count_no p at n more (λ k from before. are k from (omega (arith, before)))
]

not_both : (b : Bool) → b ≡ true → b ≡ false → ⊥
not_both true is is_not = cc
not_both false is is_not = cc

-- frames that have a box come after those so far
counted_past : (p : ℕ → Bool) (at next : ℕ) (bare : Bare) → AreCounted p at bare → at ≤ next → ((k : ℕ) → at ≤ k → k < next → p k ≡ false) → AreCounted p next bare
counted_past p at next bare c le taken = record {
  frames = c.frames ∙ sym (count_no p at next le taken);
  there = c.there;
  within = omega (arith, c.within, le);
  longest = λ a b end are. elim (cases_lt at b) [
    | inr before ↦ c.longest a b before are
    | inl past ↦ elim (cases_lt a b) [
      | inl some ↦ absurd (not_both (p (b - 1)) (are (b - 1) (omega (arith, some)) (omega (arith, some))) (taken (b - 1) (omega (arith, past)) (omega (arith, past, end))))
      | inr none ↦ omega (arith, none)
    ]
  ];
  earliest = λ a b some end are long. elim (cases_lt at b) [
    | inr before ↦ c.earliest a b some before are long
    | inl past ↦ absurd (not_both (p (b - 1)) (are (b - 1) (omega (arith, some)) (omega (arith, some))) (taken (b - 1) (omega (arith, past)) (omega (arith, past, end))))
  ];
}

-- a stretch is the longest now, or it is no longer than the longest so far
abbrev pub Took : ℕ → ℕ → Bare → Bare → Type 0
Took at next old new = ((old.end - old.first < next - at) × (new.first ≡ at) × (new.end ≡ next)) ⊎ ((next - at ≤ old.end - old.first) × (new.first ≡ old.first) × (new.end ≡ old.end))

took : (at next : ℕ) (old new : Bare) → new.first ≡ (if nat_lt (old.end - old.first) (next - at) then at else old.first) → new.end ≡ (if nat_lt (old.end - old.first) (next - at) then next else old.end) → Took at next old new
took at next old new first end = elim (cases_lt (old.end - old.first) (next - at)) [
  | inl longer ↦ inl (longer, grind (arith, first, longer), grind (arith, end, longer))
  | inr short ↦ inr (short, grind (arith, first, short), grind (arith, end, short))
]

-- frames that have none come after those so far, the last of which has one
counted_more : (p : ℕ → Bool) (at next : ℕ) (old new : Bare) → AreCounted p at old → at < next → AreBare p at next → (0 < at → p (at - 1) ≡ false) → new.frames ≡ old.frames + (next - at) → Took at next old new → AreCounted p next new
counted_more p at next old new c le are last frames (inl kept) = record {
  frames = frames ∙ ap (λ n. n + (next - at)) c.frames ∙ sym (count_yes p at next (omega (arith, le)) are);
  there = λ n from before. are n (omega (arith, from, kept.1)) (omega (arith, before, kept.2));
  within = omega (arith, kept.2);
  longest = λ a b end all. elim (cases_lt a at) [
    | inr past ↦ omega (arith, past, end, kept.1, kept.2)
    | inl early ↦ elim (cases_lt at b) [
      | inr before ↦ omega (arith, c.longest a b before all, kept.0, kept.1, kept.2)
      | inl late ↦ absurd (not_both (p (at - 1)) (all (at - 1) (omega (arith, early)) (omega (arith, early, late))) (last (omega (arith, early))))
    ]
  ];
  earliest = λ a b some end all long. elim (cases_lt a at) [
    | inr past ↦ omega (arith, past, kept.1)
    | inl early ↦ elim (cases_lt at b) [
      | inr before ↦ absurd (omega (arith, c.longest a b before all, kept.0, kept.1, kept.2, long))
      | inl late ↦ absurd (not_both (p (at - 1)) (all (at - 1) (omega (arith, early)) (omega (arith, early, late))) (last (omega (arith, early))))
    ]
  ];
}
counted_more p at next old new c le are last frames (inr kept) = record {
  frames = frames ∙ ap (λ n. n + (next - at)) c.frames ∙ sym (count_yes p at next (omega (arith, le)) are);
  there = λ n from before. c.there n (omega (arith, from, kept.1)) (omega (arith, before, kept.2));
  within = omega (arith, kept.2, c.within, le);
  longest = λ a b end all. elim (cases_lt a at) [
    | inr past ↦ omega (arith, past, end, kept.0, kept.1, kept.2)
    | inl early ↦ elim (cases_lt at b) [
      | inr before ↦ omega (arith, c.longest a b before all, kept.1, kept.2)
      | inl late ↦ absurd (not_both (p (at - 1)) (all (at - 1) (omega (arith, early)) (omega (arith, early, late))) (last (omega (arith, early))))
    ]
  ];
  earliest = λ a b some end all long. elim (cases_lt a at) [
    | inr past ↦ omega (arith, past, kept.0, kept.1, le, c.within)
    | inl early ↦ elim (cases_lt at b) [
      | inr before ↦ (let found : old.first ≤ a = c.earliest a b some before all (omega (arith, kept.1, kept.2, long)) in omega (arith, found, kept.1))
      | inl late ↦ absurd (not_both (p (at - 1)) (all (at - 1) (omega (arith, early)) (omega (arith, early, late))) (last (omega (arith, early))))
    ]
  ];
}

same_counted : (p : ℕ → Bool) (at from next : ℕ) (old new : Bare) → next - from ≡ 0 → new.frames ≡ old.frames → Took from next old new → AreCounted p at old → AreCounted p at new
same_counted p at from next old new none frames (inl kept) c = absurd (omega (arith, kept.0, none))
same_counted p at from next old new none frames (inr kept) c = record {
  frames = frames ∙ c.frames;
  there = λ n first before. c.there n (omega (arith, first, kept.1)) (omega (arith, before, kept.2));
  within = omega (arith, kept.2, c.within);
  longest = λ a b end all. omega (arith, c.longest a b end all, kept.1, kept.2);
  earliest = λ a b some end all long. (let found : old.first ≤ a = c.earliest a b some end all (omega (arith, kept.1, kept.2, long)) in omega (arith, found, kept.1));
}

-- what a stretch adds, of which only the frames of the video count
abbrev pub Adds : ℕ → ℕ → Bare → Bare → Type 0
Adds from end old new = (new.frames ≡ min (old.frames + (end - from)) 18446744073709551615) × (new.first ≡ (if nat_lt (old.end - old.first) (end - from) then from else old.first)) × (new.end ≡ (if nat_lt (old.end - old.first) (end - from) then end else old.end))

-- all frames up to the first that a box has are added, from the last one on that a box had
counted_to : (p : ℕ → Bool) (reached next : ℕ) (old new : Bare) (count : ℕ) → count < 18446744073709551616 → next ≤ count → AreCounted p (min reached count) old → AreBare p reached next → (0 < reached → p (reached - 1) ≡ false) → Adds reached next old new → AreCounted p (max (min reached count) next) new
counted_to p reached next old new count small within c are last adds = elim (cases_lt reached next) [
  | inl more ↦ (
      let at : min reached count ≡ reached = omega (arith, more, within) in
      let to : max (min reached count) next ≡ next = omega (arith, more, within) in
      let old_c : AreCounted p reached old = subst (λ n. AreCounted p n old) at c in
      subst (λ n. AreCounted p n new) (sym to) (counted_more p reached next old new old_c more are last
      (omega (arith, adds.0, old_c.frames, count_small p reached, more, within, small)) (took reached next old new adds.1 adds.2)))
  | inr none ↦ (
      let to : max (min reached count) next ≡ min reached count = omega (arith, none, within) in
      let nothing : next - reached ≡ 0 = omega (arith, none) in
      let frames : new.frames ≡ old.frames = omega (arith, adds.0, nothing, c.frames, count_small p (min reached count), small) in
      let kept : Took reached next old new = took reached next old new adds.1 adds.2 in
      subst (λ n. AreCounted p n new) (sym to) (same_counted p (min reached count) reached next old new nothing frames kept c))
]

-- ---- boxes one after the other

is_outside : (low first end n : ℕ) → low ≤ first → n < low → is_in (Some (first, end)) n ≡ false
is_outside low first end n later before = grind (arith, later, before)

none_from : (low n : ℕ) (es : List Edit) → BeginFrom low es → n < low → list_any (λ e. is_in (box_span e) n) es ≡ false
none_from low n [] are before = refl
none_from low n (e ∷ es) are before =
    let one : (span : Option (ℕ × ℕ)) → BeginsFrom low span → is_in span n ≡ false = λ span. elim span as (λ s. BeginsFrom low s → is_in s n ≡ false) [ None ↦ λ b. refl | Some s ↦ λ b. is_outside low s.0 s.1 n b before ] in
    rw (one (box_span e) are.0) (none_from low n es are.1 before)

any_none : {X : Type 0} (q : X → Bool) (xs : List X) (k : ℕ) → list_any q (take k xs) ≡ false → list_any q (drop k xs) ≡ false → list_any q xs ≡ false
any_none q [] k front back = refl
any_none q (x ∷ xs) zero front back = back
any_none q (x ∷ xs) (suc k) front back = elim (q x) as (λ v. q x ≡ v → list_any q (x ∷ xs) ≡ false) [
  | true ↦ λ is. absurd (let bad : true ≡ false = ap (λ (v : Bool). v || list_any q (take k xs)) (sym is) ∙ front in cc)
  | false ↦ λ is. rw is (any_none q xs k (ap (λ (v : Bool). v || list_any q (take k xs)) (sym is) ∙ front) back)
] refl

all_from_0 : (es : List Edit) → BeginFrom 0 es
all_from_0 [] = tt
all_from_0 (e ∷ es) = ((elim (box_span e) as (λ s. BeginsFrom 0 s) [ None ↦ tt | Some s ↦ omega arith ]), all_from_0 es)

-- what is known after so many edits, whose boxes end up to a frame
pub record Swept (steps : List Edit) (count i reached : ℕ) (bare : Bare) : Type 0 where
  pub low : ℕ
  pub counted : AreCounted (is_bare steps) (min reached count) bare
  pub taken : (n : ℕ) → low ≤ n → n < reached → is_bare steps n ≡ false
  pub before : 0 < reached → low < reached
  pub ends : (n : ℕ) → reached ≤ n → list_any (λ e. is_in (box_span e) n) (take i steps) ≡ false
  pub order : AreInOrder (drop i steps)
  pub later : BeginFrom low (drop i steps)

pub swept_none : (steps : List Edit) (count : ℕ) (bare : Bare) → AreInOrder steps → bare.frames ≡ 0 → bare.first ≡ 0 → bare.end ≡ 0 → Swept steps count 0 0 bare
swept_none steps count bare order frames first end = record {
  low = 0;
  counted = record {
    frames = frames ∙ ap (bare_count (is_bare steps)) (sym (let e : min 0 count ≡ 0 = omega arith in e));
    there = λ n from before. absurd (omega (arith, before, end));
    within = omega (arith, end);
    longest = λ a b within are. omega (arith, within);
    earliest = λ a b some within are long. absurd (omega (arith, some, within));
  };
  taken = λ n from before. absurd (omega (arith, before));
  before = λ some. absurd (omega (arith, some));
  ends = λ n from. refl;
  order = order;
  later = all_from_0 steps;
}

pub swept_other : (steps : List Edit) (count i reached : ℕ) (bare : Bare) (d : Edit) → i < length steps → box_span (get_or steps i d) ≡ None → Swept steps count i reached bare → Swept steps count (i + 1) reached bare
swept_other steps count i reached bare d within other s =
    let here : drop i steps ≡ get_or steps i d ∷ drop (i + 1) steps = drop_more steps i d within in
    let order : AreInOrder (get_or steps i d ∷ drop (i + 1) steps) = subst AreInOrder here s.order in
    let later : BeginFrom s.low (get_or steps i d ∷ drop (i + 1) steps) = subst (BeginFrom s.low) here s.later in
    record {
      low = s.low;
      counted = s.counted;
      taken = s.taken;
      before = s.before;
      ends = λ n from. list_any_more (λ e. is_in (box_span e) n) steps i d within ∙ ap (λ (v : Bool). v || is_in (box_span (get_or steps i d)) n) (s.ends n from) ∙ ap (λ (v : Option (ℕ × ℕ)). is_in v n) other;
      order = order.1;
      later = later.1;
    }

is_inside : (first end n : ℕ) → first ≤ n → n < end → is_in (Some (first, end)) n ≡ true
is_inside first end n from before = grind (arith, from, before)

is_past : (first end n : ℕ) → end ≤ n → is_in (Some (first, end)) n ≡ false
is_past first end n past = grind (arith, past)

pub swept_box : (steps : List Edit) (count i reached : ℕ) (old new : Bare) (d : Edit) (first end : ℕ) → i < length steps → count < 18446744073709551616 → first < end → box_span (get_or steps i d) ≡ Some (first, end) → Adds reached (min first count) old new → Swept steps count i reached old → Swept steps count (i + 1) (max reached end) new
swept_box steps count i reached old new d first end within small some box adds s =
    let e : Edit = get_or steps i d in
    let rest : List Edit = drop (i + 1) steps in
    let p : ℕ → Bool = is_bare steps in
    let here : drop i steps ≡ e ∷ rest = drop_more steps i d within in
    let order : AreInOrder (e ∷ rest) = subst AreInOrder here s.order in
    let later : BeginFrom s.low (e ∷ rest) = subst (BeginFrom s.low) here s.later in
    let low : s.low ≤ first = subst (BeginsFrom s.low) box later.0 in
    let after : BeginFrom first rest = subst (λ span. BeginAfter span rest) box order.0 in
    let bare : AreBare p reached (min first count) = λ n from before.
    let one : is_in (box_span e) n ≡ false = ap (λ (v : Option (ℕ × ℕ)). is_in v n) box ∙ is_outside first first end n (omega arith) (omega (arith, before)) in
    let others : list_any (λ f. is_in (box_span f) n) (drop i steps) ≡ false = ap (list_any (λ f. is_in (box_span f) n)) here ∙ ap (λ (v : Bool). v || list_any (λ f. is_in (box_span f) n) rest) one ∙ none_from first n rest after (omega (arith, before)) in
    ap not (any_none (λ f. is_in (box_span f) n) steps i (s.ends n from) others) in
    let inside : (n : ℕ) → first ≤ n → n < end → p n ≡ false = λ n from before.
    ap not (list_any_at (λ f. is_in (box_span f) n) steps i d within (ap (λ (v : Option (ℕ × ℕ)). is_in v n) box ∙ is_inside first end n from before)) in
    let covered : (n : ℕ) → first ≤ n → n < max reached end → p n ≡ false = λ n from before. elim (cases_lt n end) [ inl inner ↦ inside n from inner | inr past ↦ s.taken n (omega (arith, low, from)) (omega (arith, past, before)) ] in
    let first_part = counted_to p reached (min first count) old new count small (omega arith) s.counted bare (λ reached_some. s.taken (reached - 1) (omega (arith, s.before reached_some)) (omega (arith, reached_some))) adds in
    record {
      low = first;
      counted = counted_past p (max (min reached count) (min first count)) (min (max reached end) count) new first_part (omega (arith, some)) (λ n from before. covered n (omega (arith, from, before)) (omega (arith, before)));
      taken = covered;
      before = λ reached_some. omega (arith, some);
      ends = λ n from. list_any_more (λ f. is_in (box_span f) n) steps i d within ∙ ap (λ (v : Bool). v || is_in (box_span e) n) (s.ends n (omega (arith, from))) ∙ ap (λ (v : Option (ℕ × ℕ)). is_in v n) box ∙ is_past first end n (omega (arith, from));
      order = order.1;
      later = after;
    }

pub swept_all : (steps : List Edit) (count i reached : ℕ) (old new : Bare) → length steps ≤ i → count < 18446744073709551616 → Adds reached count old new → Swept steps count i reached old → AreCounted (is_bare steps) count new
swept_all steps count i reached old new past small adds s =
    let p : ℕ → Bool = is_bare steps in
    let bare : AreBare p reached count = λ n from before. ap not (any_none (λ f. is_in (box_span f) n) steps i (s.ends n from) (ap (list_any (λ f. is_in (box_span f) n)) (drop_all i steps past))) in
    let to : max (min reached count) count ≡ count = omega arith in
    subst (λ n. AreCounted p n new) to (counted_to p reached count old new count small (omega arith) s.counted bare (λ reached_some. s.taken (reached - 1) (omega (arith, s.before reached_some)) (omega (arith, reached_some))) adds)
