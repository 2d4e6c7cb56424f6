-- The first frame in which an edit covers nothing, as more frames and more shapes are known.
use Rattle.std.proofs.Common.{◌≡◌, ◌≢◌, ◌≤◌, ◌<◌, ◌+◌, ℕ, nat_lt, if◌then◌else◌, List, ◌∷◌, Option, Some, None, IfSome, refl, sym, ◌∙◌, ap, subst, arith, inl, inr}
use Rattle.std.specs.List.{slice_get}
use Rattle.std.specs.Option.{is_some, option_map}
use Rattle.std.proofs.lemmas.Bool.{cases_lt}
use Rattle.texts.proofs.Options.{some_is}
use Rattle.frame_edits.specs.declared.words.Edit.{Edit}
use Rattle.frame_requests.specs.Seen.{FirstFound, FirstUncovered, HasItsShape, HasLastShape, IsFirstUncovered, IsOneKnown, IsOtherTold, IsUncoveredAt, Keeps, Knows, NoneUncovered, Sees, frame_of, kept, known_of, last_seen, shape_at}
use Rattle.frame_requests.specs.Uncovered.{IsUncovered}
use Rattle.frame_requests.specs.declared.seen.Known.{Known}
use Rattle.frame_requests.specs.declared.seen.Known.TheVariants.{One}
use Rattle.frame_requests.specs.declared.seen.Seen.{Seen}
use Rattle.frame_requests.specs.declared.seen.Shape.{Shape}
use Rattle.frame_requests.specs.declared.seen.Stretch.{Stretch}
use Rattle.frame_requests.specs.declared.seen.Uncovered.{Uncovered}

-- ---- a frame, and the stretch that it is in

at_frame : (shapes : List (ℕ × Shape)) (s : Stretch) (e : Edit) (n : ℕ) → shape_at shapes n ≡ Some s.shape → IsUncovered s e n → IsUncoveredAt shapes e n
at_frame shapes s e n there u = record {
  shape = s.shape;
  there = there;
  uncovered = record { empty = u.empty; first = u.first; end = u.end; frames = u.frames; from = u.from; before = u.before; here = omega arith; still = omega arith };
}

in_stretch : (shapes : List (ℕ × Shape)) (s : Stretch) (e : Edit) (n : ℕ) → shape_at shapes n ≡ Some s.shape → s.first ≤ n → n < s.end → IsUncoveredAt shapes e n → IsUncovered s e n
in_stretch shapes s e n there here still u =
    let same : u.shape ≡ s.shape = some_is u.shape s.shape (sym u.there ∙ there) in
    let one : IsUncovered (frame_of s.shape n) e n = subst (λ shape. IsUncovered (frame_of shape n) e n) same u.uncovered in
    record { empty = one.empty; first = one.first; end = one.end; frames = one.frames; from = one.from; before = one.before; here = here; still = still }

-- ---- more frames

-- the first of two, where there is one
abbrev pub first_of : Option Uncovered → Option Uncovered → Option Uncovered
first_of (Some u) found = Some u
first_of None found = found

-- the frames of a stretch come after those before it
pub first_more : (shapes : List (ℕ × Shape)) (s : Stretch) (e : Edit) → HasItsShape shapes s → s.first ≤ s.end → (before found : Option Uncovered) → FirstUncovered shapes e s.first before → FirstFound s e found → FirstUncovered shapes e s.end (first_of before found)
unfolding at_frame
first_more shapes s e same order (Some u) found first here = record { there = first.there; before = omega (arith, first.before, order); first = first.first; size = first.size }
first_more shapes s e same order None (Some u) none here =
    let there = here.there in
    record {
      there = at_frame shapes s e u.frame (same u.frame there.here there.still) there;
      before = there.still;
      first = λ n is. elim (cases_lt n s.first) [
        | inl before ↦ absurd (none n before is)
        | inr from ↦ elim (cases_lt n s.end) [
          | inl still ↦ here.first n (in_stretch shapes s e n (same n from still) from still is)
          | inr past ↦ omega (arith, there.still, past)
        ]
      ];
      size = here.size;
    }
first_more shapes s e same order None None none here = λ n before is. elim (cases_lt n s.first) [
  | inl early ↦ none n early is
  | inr from ↦ here n (in_stretch shapes s e n (same n from before) from before is)
]

-- frames without a shape come after them
pub first_past : (shapes : List (ℕ × Shape)) (e : Edit) (first end : ℕ) → ((n : ℕ) → first ≤ n → shape_at shapes n ≡ None) → first ≤ end → (found : Option Uncovered) → FirstUncovered shapes e first found → FirstUncovered shapes e end found
first_past shapes e first end none order (Some u) is = record { there = is.there; before = omega (arith, is.before, order); first = is.first; size = is.size }
first_past shapes e first end none order None is = λ n before u. elim (cases_lt n first) [
  | inl early ↦ is n early u
  | inr from ↦ (let bad : None ≡ Some u.shape = sym (none n from) ∙ u.there in cc)
]

-- ---- one shape more

pub shape_before : (shapes : List (ℕ × Shape)) (number : ℕ) (shape : Shape) (n : ℕ) → n < number → shape_at ((number, shape) ∷ shapes) n ≡ shape_at shapes n
shape_before shapes number shape n before = grind (arith, before)

pub shape_from : (shapes : List (ℕ × Shape)) (number : ℕ) (shape : Shape) (n : ℕ) → number ≤ n → shape_at ((number, shape) ∷ shapes) n ≡ Some shape
shape_from shapes number shape n from = grind (arith, from)

with_shape : (shapes : List (ℕ × Shape)) (number : ℕ) (shape : Shape) (e : Edit) (n : ℕ) → n < number → IsUncoveredAt shapes e n → IsUncoveredAt ((number, shape) ∷ shapes) e n
with_shape shapes number shape e n before u = record { shape = u.shape; there = shape_before shapes number shape n before ∙ u.there; uncovered = u.uncovered }

without_shape : (shapes : List (ℕ × Shape)) (number : ℕ) (shape : Shape) (e : Edit) (n : ℕ) → n < number → IsUncoveredAt ((number, shape) ∷ shapes) e n → IsUncoveredAt shapes e n
without_shape shapes number shape e n before u = record { shape = u.shape; there = sym (shape_before shapes number shape n before) ∙ u.there; uncovered = u.uncovered }

first_with : (shapes : List (ℕ × Shape)) (number : ℕ) (shape : Shape) (e : Edit) (end : ℕ) → end ≤ number → (found : Option Uncovered) → FirstUncovered shapes e end found → FirstUncovered ((number, shape) ∷ shapes) e end found
unfolding with_shape
first_with shapes number shape e end order (Some u) is = record {
  there = with_shape shapes number shape e u.frame (omega (arith, is.before, order)) is.there;
  before = is.before;
  first = λ n v. elim (cases_lt n number) [
    | inl before ↦ is.first n (without_shape shapes number shape e n before v)
    | inr from ↦ omega (arith, is.before, order, from)
  ];
  size = is.size;
}
first_with shapes number shape e end order None is = λ n before u. is n before (without_shape shapes number shape e n (omega (arith, before, order)) u)

-- ---- what is known of all edits

if_some : {A : Type 0} (P Q : A → Type 0) → ((x : A) → P x → Q x) → (o : Option A) → IfSome o P → IfSome o Q
if_some P Q f None p = tt
if_some P Q f (Some x) p = f x p

pub knows_with : (k : Known) (steps : List Edit) (shapes : List (ℕ × Shape)) (number : ℕ) (shape : Shape) (end : ℕ) → end ≤ number → Knows k steps shapes (λ at. end) → Knows k steps ((number, shape) ∷ shapes) (λ at. end)
knows_with k steps shapes number shape end order knows = record {
  right = λ at e is. if_some (FirstUncovered shapes e end) (FirstUncovered ((number, shape) ∷ shapes) e end) (first_with shapes number shape e end order) (known_of k at) (knows.right at e is);
  other = knows.other;
}

pub knows_past : (k : Known) (steps : List Edit) (shapes : List (ℕ × Shape)) (first end : ℕ) → ((n : ℕ) → first ≤ n → shape_at shapes n ≡ None) → first ≤ end → Knows k steps shapes (λ at. first) → Knows k steps shapes (λ at. end)
knows_past k steps shapes first end none order knows = record {
  right = λ at e is. if_some (FirstUncovered shapes e first) (FirstUncovered shapes e end) (first_past shapes e first end none order) (known_of k at) (knows.right at e is);
  other = knows.other;
}

-- ---- one edit after the other

-- up to where the frames of an edit are known, when those before this one were looked at
abbrev pub up_to : ℕ → ℕ → ℕ → ℕ → ℕ
up_to at first end m = if nat_lt m at then end else first

seen_to : (at first end m : ℕ) → m < at → up_to at first end m ≡ end
seen_to at first end m before = grind (arith, before)

not_seen : (at first end m : ℕ) → at ≤ m → up_to at first end m ≡ first
not_seen at first end m from = grind (arith, from)

module _ (shapes : List (ℕ × Shape)) (s : Stretch) (same : HasItsShape shapes s) (order : s.first ≤ s.end) (steps : List Edit) where
  abbrev pub KnowsTo : Known → ℕ → Type 0
  KnowsTo k at = Knows k steps shapes (up_to at s.first s.end)

  -- an edit with the same end
  same_end : (e : Edit) (o : Option (Option Uncovered)) (a b : ℕ) → a ≡ b → IfSome o (FirstUncovered shapes e a) → IfSome o (FirstUncovered shapes e b)
  same_end e o a b is known = subst (λ end. IfSome o (FirstUncovered shapes e end)) is known

  pub none_looked : (k : Known) → Knows k steps shapes (λ at. s.first) → KnowsTo k 0
  none_looked k knows = record {
    right = λ m e is. same_end e (known_of k m) s.first (up_to 0 s.first s.end m) (sym (not_seen 0 s.first s.end m (omega arith))) (knows.right m e is);
    other = knows.other;
  }

  pub all_looked : (k : Known) (at : ℕ) → ((m : ℕ) (e : Edit) → slice_get steps m ≡ Some e → m < at) → KnowsTo k at → Knows k steps shapes (λ at. s.end)
  all_looked k at all knows = record {
    right = λ m e is. same_end e (known_of k m) (up_to at s.first s.end m) s.end (seen_to at s.first s.end m (all m e is)) (knows.right m e is);
    other = knows.other;
  }

  -- an edit that isn't this one
  other_edit : (o : Option (Option Uncovered)) (at m : ℕ) (e : Edit) → m ≢ at → IfSome o (FirstUncovered shapes e (up_to at s.first s.end m)) → IfSome o (FirstUncovered shapes e (up_to (at + 1) s.first s.end m))
  other_edit o at m e not known = elim (cases_lt m at) [
    | inl before ↦ same_end e o _ _ (seen_to at s.first s.end m before ∙ sym (seen_to (at + 1) s.first s.end m (omega (arith, before)))) known
    | inr from ↦ elim (cases_lt at m) [
      | inl after ↦ same_end e o _ _ (not_seen at s.first s.end m from ∙ sym (not_seen (at + 1) s.first s.end m (omega (arith, after)))) known
      | inr past ↦ absurd (not (omega (arith, from, past)))
    ]
  ]

  -- what is known of this one, with what was found
  this_edit : (o : Option (Option Uncovered)) (at : ℕ) (e : Edit) (u : Uncovered) → FirstFound s e (Some u) → IfSome o (FirstUncovered shapes e (up_to at s.first s.end at)) → IfSome (kept o u) (FirstUncovered shapes e (up_to (at + 1) s.first s.end at))
  this_edit None at e u found known = tt
  this_edit (Some None) at e u found known =
      subst (λ end. FirstUncovered shapes e end (Some u)) (sym (seen_to (at + 1) s.first s.end at (omega arith))) (first_more shapes s e same order None (Some u) (subst (λ end. FirstUncovered shapes e end None) (not_seen at s.first s.end at (omega arith)) known) found)
  this_edit (Some (Some v)) at e u found known =
      subst (λ end. FirstUncovered shapes e end (Some v)) (sym (seen_to (at + 1) s.first s.end at (omega arith))) (first_more shapes s e same order (Some v) (Some u) (subst (λ end. FirstUncovered shapes e end (Some v)) (not_seen at s.first s.end at (omega arith)) known) found)

  still_known : (o : Option (Option Uncovered)) (at : ℕ) (e : Edit) → FirstFound s e None → IfSome o (FirstUncovered shapes e (up_to at s.first s.end at)) → IfSome o (FirstUncovered shapes e (up_to (at + 1) s.first s.end at))
  still_known None at e none known = tt
  still_known (Some None) at e none known =
      subst (λ end. FirstUncovered shapes e end None) (sym (seen_to (at + 1) s.first s.end at (omega arith))) (first_more shapes s e same order None None (subst (λ end. FirstUncovered shapes e end None) (not_seen at s.first s.end at (omega arith)) known) none)
  still_known (Some (Some v)) at e none known =
      subst (λ end. FirstUncovered shapes e end (Some v)) (sym (seen_to (at + 1) s.first s.end at (omega arith))) (first_more shapes s e same order (Some v) None (subst (λ end. FirstUncovered shapes e end (Some v)) (not_seen at s.first s.end at (omega arith)) known) none)

  -- the edit of this number is this one or another
  by_edit : (P : ℕ → Edit → Type 0) (at : ℕ) (edit : Edit) → slice_get steps at ≡ Some edit → P at edit → ((m : ℕ) (e : Edit) → slice_get steps m ≡ Some e → m ≢ at → P m e) → (m : ℕ) (e : Edit) → slice_get steps m ≡ Some e → P m e
  by_edit P at edit there this others m e is = elim (cases_lt m at) [
    | inl before ↦ others m e is (λ bad. omega (arith, bad, before))
    | inr from ↦ elim (cases_lt at m) [
      | inl after ↦ others m e is (λ bad. omega (arith, bad, after))
      | inr past ↦ (
          let one : at ≡ m = omega (arith, from, past) in
          let edit_is : edit ≡ e = some_is edit e (sym there ∙ ap (slice_get steps) one ∙ is) in
          subst (λ n. P n e) one (subst (P at) edit_is this))
    ]
  ]

  -- nothing was found for this one
  pub looked_none : (k : Known) (at : ℕ) (edit : Edit) → slice_get steps at ≡ Some edit → FirstFound s edit None → KnowsTo k at → KnowsTo k (at + 1)
  looked_none k at edit there none knows = record {
    right = by_edit (λ m e. IfSome (known_of k m) (FirstUncovered shapes e (up_to (at + 1) s.first s.end m))) at edit there
        (still_known (known_of k at) at edit none (knows.right at edit there))
        (λ m e is not. other_edit (known_of k m) at m e not (knows.right m e is));
    other = knows.other;
  }

  -- a frame was found for it
  module _ (old new : Known) (at : ℕ) (edit : Edit) (u : Uncovered) (there : slice_get steps at ≡ Some edit) where
    lifted : ((n : ℕ) → n ≢ at → known_of new n ≡ known_of old n) → known_of new at ≡ kept (known_of old at) u → IsOneKnown old steps → IsOneKnown new steps
    lifted others here one = record {
      at = one.at;
      edit = one.edit;
      is = one.is;
      found = one.found;
      known = elim (cases_lt one.at at) [
        | inl before ↦ others one.at (λ bad. omega (arith, bad, before)) ∙ one.known
        | inr from ↦ elim (cases_lt at one.at) [
          | inl after ↦ others one.at (λ bad. omega (arith, bad, after)) ∙ one.known
          | inr past ↦ (
              let same_at : at ≡ one.at = omega (arith, from, past) in
              ap (known_of new) (sym same_at) ∙ here ∙ ap (λ o. kept o u) (ap (known_of old) same_at ∙ one.known))
        ]
      ];
    }

    kept_none : (o : Option (Option Uncovered)) → kept o u ≡ None → o ≡ None
    kept_none None is = refl
    kept_none (Some None) is = cc
    kept_none (Some (Some v)) is = cc

    was_none : ((n : ℕ) → n ≢ at → known_of new n ≡ known_of old n) → known_of new at ≡ kept (known_of old at) u → (m : ℕ) → known_of new m ≡ None → known_of old m ≡ None
    was_none others here m none = elim (cases_lt m at) [
      | inl before ↦ sym (others m (λ bad. omega (arith, bad, before))) ∙ none
      | inr from ↦ elim (cases_lt at m) [
        | inl after ↦ sym (others m (λ bad. omega (arith, bad, after))) ∙ none
        | inr past ↦ (
            let same_at : at ≡ m = omega (arith, from, past) in
            ap (known_of old) (sym same_at) ∙ kept_none (known_of old at) (sym here ∙ ap (known_of new) same_at ∙ none))
      ]
    ]

    one_here : known_of (One at u) at ≡ Some (Some u)
    one_here = grind arith

    one_else : (m : ℕ) → m ≢ at → known_of (One at u) m ≡ None
    one_else m not = grind (arith, not)

    pub looked_found : Keeps at u old new → FirstFound s edit (Some u) → KnowsTo old at → KnowsTo new (at + 1)
    looked_found keeps found knows =
        let here : IfSome (known_of new at) (FirstUncovered shapes edit (up_to (at + 1) s.first s.end at)) =
        subst (λ o. IfSome o (FirstUncovered shapes edit (up_to (at + 1) s.first s.end at))) (sym keeps.here) (this_edit (known_of old at) at edit u found (knows.right at edit there)) in
        elim keeps.others [
          | inl others ↦ record {
            right = by_edit (λ m e. IfSome (known_of new m) (FirstUncovered shapes e (up_to (at + 1) s.first s.end m))) at edit there here
                (λ m e is not. subst (λ o. IfSome o (FirstUncovered shapes e (up_to (at + 1) s.first s.end m))) (sym (others m not)) (other_edit (known_of old m) at m e not (knows.right m e is)));
            other = λ m none. lifted others keeps.here (knows.other m (was_none others keeps.here m none));
          }
          | inr lost ↦ record {
            right = by_edit (λ m e. IfSome (known_of new m) (FirstUncovered shapes e (up_to (at + 1) s.first s.end m))) at edit there here
                (λ m e is not. subst (λ o. IfSome o (FirstUncovered shapes e (up_to (at + 1) s.first s.end m))) (sym (ap (λ k. known_of k m) lost ∙ one_else m not)) tt);
            other = λ m none. record { at = at; edit = edit; is = there; found = u; known = ap (λ k. known_of k at) lost ∙ one_here };
          }
        ]

-- ---- the frames of the last shape

abbrev ends_at : ℕ → ℕ → Shape → Stretch
ends_at first end shape = record { shape = shape; first = first; end = end }

-- the parts of a stretch
pub record IsStretch (shape : Option Shape) (first end : ℕ) (s : Stretch) : Type 0 where
  pub shape_is : shape ≡ Some s.shape
  pub first_is : s.first ≡ first
  pub end_is : s.end ≡ end

pub is_stretch : (shape : Option Shape) (first end : ℕ) (s : Stretch) → option_map (ends_at first end) shape ≡ Some s → IsStretch shape first end s
is_stretch None first end s is = cc
is_stretch (Some x) first end s is =
    let one = some_is (ends_at first end x) s is in
    record { shape_is = ap (λ (t : Stretch). Some t.shape) one; first_is = ap (λ (t : Stretch). t.first) (sym one); end_is = ap (λ (t : Stretch). t.end) (sym one) }

pub no_stretch : (shape : Option Shape) (first end : ℕ) → option_map (ends_at first end) shape ≡ None → shape ≡ None
no_stretch None first end is = refl
no_stretch (Some x) first end is = cc

module _ (shapes : List (ℕ × Shape)) (seen : Seen) (last : HasLastShape shapes seen) (end : ℕ) (s : Stretch) (is : IsStretch seen.shape seen.first end s) where
  pub has_its_shape : HasItsShape shapes s
  has_its_shape n from before = last n (omega (arith, from, is.first_is)) ∙ is.shape_is

  -- what ends a stretch knows of the frames up to the end
  pub ends : (old new : Known) (steps : List Edit) → ((shapes : List (ℕ × Shape)) → HasItsShape shapes s → s.first ≤ s.end → Knows old steps shapes (λ at. s.first) → Knows new steps shapes (λ at. s.end)) → seen.first ≤ end → Knows old steps shapes (λ at. seen.first) → Knows new steps shapes (λ at. end)
  ends old new steps done order knows = subst (λ n. Knows new steps shapes (λ at. n)) is.end_is (done shapes has_its_shape (omega (arith, order, is.first_is, is.end_is)) (subst (λ n. Knows old steps shapes (λ at. n)) (sym is.first_is) knows))

-- ---- what is told of an edit

module _ (steps : List Edit) (shapes : List (ℕ × Shape)) (seen : Seen) (sees : Sees steps shapes seen) where
  pub known_first : (at : ℕ) (e : Edit) (found : Option Uncovered) → slice_get steps at ≡ Some e → known_of seen.known at ≡ Some found → FirstUncovered shapes e seen.first found
  known_first at e found there known = subst (λ o. IfSome o (FirstUncovered shapes e seen.first)) known (sees.knows.right at e there)

  -- the frame that is known is before the end
  pub told_first : (at : ℕ) (e : Edit) (count : ℕ) (u : Uncovered) → slice_get steps at ≡ Some e → last_seen seen ≤ count → known_of seen.known at ≡ Some (Some u) → IsFirstUncovered shapes e count u
  told_first at e count u there order known =
      let first = known_first at e (Some u) there known in
      record { there = first.there; before = omega (arith, first.before, sees.within, order); first = first.first; size = first.size }

  pub other_told : (at count : ℕ) → last_seen seen ≤ count → known_of seen.known at ≡ None → IsOtherTold seen steps shapes count
  other_told at count order none =
      let one = sees.knows.other at none in
      let first = told_first one.at one.edit count one.found one.is order one.known in
      record { any = record { at = one.at; edit = one.edit; is = one.is; frame = one.found.frame; before = first.before; uncovered = first.there }; told = ap is_some one.known }

  -- there are no frames of the last shape
  pub told_none : (at : ℕ) (e : Edit) (count : ℕ) → slice_get steps at ≡ Some e → known_of seen.known at ≡ Some None → seen.shape ≡ None → NoneUncovered shapes e count
  told_none at e count there known no_shape n before u = elim (cases_lt n seen.first) [
    | inl early ↦ known_first at e None there known n early u
    | inr from ↦ (let bad : None ≡ Some u.shape = sym (sees.last_shape n from ∙ no_shape) ∙ u.there in cc)
  ]

  -- none is known before those of the last shape, of which there is a stretch
  module _ (at : ℕ) (e : Edit) (there : slice_get steps at ≡ Some e) (known : known_of seen.known at ≡ Some None) (count : ℕ) (s : Stretch) (is : IsStretch seen.shape seen.first count s) where
    as_some : (end : ℕ) (o : Option Uncovered) → FirstUncovered shapes e end o → IfSome o (IsFirstUncovered shapes e end)
    as_some end None first = tt
    as_some end (Some u) first = first

    pub found_first : last_seen seen ≤ count → (found : Option Uncovered) → FirstFound s e found → IfSome found (IsFirstUncovered shapes e count)
    found_first order found here =
        let before : FirstUncovered shapes e s.first None = subst (λ n. FirstUncovered shapes e n None) (sym is.first_is) (known_first at e None there known) in
        as_some count found (subst (λ n. FirstUncovered shapes e n found) is.end_is
        (first_more shapes s e (has_its_shape shapes seen sees.last_shape count s is) (omega (arith, sees.within, order, is.first_is, is.end_is)) None found before here))

    pub found_none : FirstFound s e None → NoneUncovered shapes e count
    found_none here n before u = elim (cases_lt n seen.first) [
      | inl early ↦ known_first at e None there known n early u
      | inr from ↦ here n (in_stretch shapes s e n (sees.last_shape n from ∙ is.shape_is) (omega (arith, from, is.first_is)) (omega (arith, before, is.end_is)) u)
    ]
