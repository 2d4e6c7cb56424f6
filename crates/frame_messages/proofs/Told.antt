-- Runs that have seen frames of the same shapes are told alike.
use Rattle.std.proofs.Common.{◌≡◌, ◌≤◌, ◌<◌, ◌+◌, ◌-◌, ◌==◌, ℕ, zero, suc, Bool, true, false, nat_lt, List, Option, Some, None, Result, Ok, Err, IfOk, IfSome, refl, sym, ap, ◌∙◌, subst, arith}
use Rattle.std.specs.List.{list_any}
use Rattle.std.specs.Option.{is_some}
use Rattle.std.proofs.lemmas.Bool.{and_parts, ltb-true}
use Rattle.texts.specs.Reading.{◌>>=◌}
use Rattle.texts.proofs.Options.{some_is}
use Rattle.frame_edits.specs.declared.words.Edit.{Edit}
use Rattle.frame_messages.specs.Bare.{AreBare, AreCounted, AreInOrder, bare_count, is_bare}
use Rattle.frame_messages.specs.Ending.{is_any_bare, status_after}
use Rattle.frame_messages.specs.Told.{FoundAfter, IsFound, OneEnding, OneTold, OneUncovered}
use Rattle.frame_messages.specs.Unreached.{is_unreached}
use Rattle.frame_messages.specs.declared.ending.Found.{Found}
use Rattle.frame_messages.specs.declared.report.Bare.{Bare}
use Rattle.frame_messages.proofs.BareFrames.{count_at}
use Rattle.frame_requests.specs.declared.fault.RunFault.{RunFault}
use Rattle.frame_messages.specs.declared.places.Texts.{Texts}
use Rattle.frame_requests.specs.Seen.{IsUncoveredAt, SeeTheSame, last_seen, shape_at}
use Rattle.frame_requests.specs.Uncovered.{rate_in, size_in}
use Rattle.frame_requests.specs.declared.seen.Seen.{Seen}
use Rattle.frame_requests.specs.declared.seen.Shape.{Shape}

-- ---- what messages take

pub one_told : OneTold
one_told steps s t same =
    let last : s.last ≡ t.last = same.mine.last ∙ sym same.theirs.last in
    let shape : s.shape ≡ t.shape = sym (same.mine.last_shape s.last same.mine.within) ∙ ap (shape_at same.shapes) last ∙ same.theirs.last_shape t.last same.theirs.within in
    record { shape = shape; last = last; rate = ap (λ (o : Option Shape). o >>= rate_in) shape }

one_size : (shapes : List (ℕ × Shape)) (e : Edit) (n m : ℕ) (u : IsUncoveredAt shapes e n) (v : IsUncoveredAt shapes e m) → n ≡ m → size_in u.shape ≡ size_in v.shape
one_size shapes e n m u v same = ap size_in (some_is u.shape v.shape (sym u.there ∙ ap (shape_at shapes) same ∙ v.there))

pub one_uncovered : OneUncovered
one_uncovered shapes e end None None is it = refl
one_uncovered shapes e end None (Some v) is it = absurd (is v.frame it.before it.there)
one_uncovered shapes e end (Some u) None is it = absurd (it u.frame is.before is.there)
one_uncovered shapes e end (Some u) (Some v) is it =
    let frame : u.frame ≡ v.frame = omega (arith, is.first v.frame it.there, it.first u.frame is.there) in
    let size : (u.width, u.height) ≡ (v.width, v.height) = sym is.size ∙ one_size shapes e u.frame v.frame is.there it.there frame ∙ it.size in
    λ i. Some (record { frame = frame i; width = (size i).0; height = (size i).1 })

-- ---- frames without a box

record IsBareBefore (p : ℕ → Bool) (count : ℕ) : Type 0 where
  at : ℕ
  before : at < count
  is : p at ≡ true

bare_later : (p : ℕ → Bool) (n : ℕ) → IsBareBefore p n → IsBareBefore p (suc n)
bare_later p n one = record { at = one.at; before = omega (arith, one.before); is = one.is }

-- where some are counted there is one
one_bare : (p : ℕ → Bool) (count : ℕ) → 0 < bare_count p count → IsBareBefore p count
one_bare p zero some = absurd (omega (arith, some))
one_bare p (suc n) some = elim (p n) as (λ b. p n ≡ b → IsBareBefore p (suc n)) [
  | true ↦ λ is. record { at = n; before = omega arith; is = is }
  | false ↦ λ is. bare_later p n (one_bare p n (subst (λ k. 0 < k) (count_at p n false is) some))
] refl

alone : (p : ℕ → Bool) (at : ℕ) → p at ≡ true → AreBare p at (at + 1)
alone p at is n from before = let one : at ≡ n = omega (arith, from, before) in subst (λ k. p k ≡ true) one is

-- so there is one first of the longest stretches
one_counted : (p : ℕ → Bool) (count : ℕ) (u v : Bare) → 0 < bare_count p count → AreCounted p count u → AreCounted p count v → u ≡ v
one_counted p count u v some mine theirs =
    let one = one_bare p count some in
    let long : 1 ≤ u.end - u.first = omega (arith, mine.longest one.at (one.at + 1) (omega (arith, one.before)) (alone p one.at one.is)) in
    let more : u.end - u.first ≤ v.end - v.first = theirs.longest u.first u.end mine.within mine.there in
    let less : v.end - v.first ≤ u.end - u.first = mine.longest v.first v.end theirs.within theirs.there in
    let late : v.first ≤ u.first = theirs.earliest u.first u.end (omega (arith, long)) mine.within mine.there less in
    let early : u.first ≤ v.first = mine.earliest v.first v.end (omega (arith, long, more)) theirs.within theirs.there more in
    let frames : u.frames ≡ v.frames = mine.frames ∙ sym theirs.frames in
    let first : u.first ≡ v.first = omega (arith, late, early) in
    let end : u.end ≡ v.end = omega (arith, first, long, more, less) in
    λ i. record { frames = frames i; first = first i; end = end i }

-- of both there is one, or of none
one_found_bare : (p : ℕ → Bool) (count : ℕ) (b : Bool) (u v : Option Bare) → (b ≡ true → 0 < bare_count p count) → is_some u ≡ b → is_some v ≡ b → IfSome u (AreCounted p count) → IfSome v (AreCounted p count) → u ≡ v
one_found_bare p count b None None some mine theirs is it = refl
one_found_bare p count b None (Some v) some mine theirs is it = absurd (let bad : true ≡ false = theirs ∙ sym mine in cc)
one_found_bare p count b (Some u) None some mine theirs is it = absurd (let bad : true ≡ false = mine ∙ sym theirs in cc)
one_found_bare p count b (Some u) (Some v) some mine theirs is it = ap Some (one_counted p count u v (some (sym mine)) is it)

any_bare : (texts : Texts) (steps : List Edit) (count : ℕ) → is_any_bare texts steps count ≡ true → 0 < bare_count (is_bare steps) count
any_bare texts steps count is = ltb-true 0 (bare_count (is_bare steps) count) (and_parts (is_some texts.boxes) (nat_lt 0 (bare_count (is_bare steps) count)) is).1

-- ---- what a run ends as

one_bool : (b c : Bool) → (b ≡ true → c ≡ false → ⊥) → (c ≡ true → b ≡ false → ⊥) → b ≡ c
one_bool true true more less = refl
one_bool true false more less = absurd (more refl refl)
one_bool false true more less = absurd (less refl refl)
one_bool false false more less = refl

one_found : (texts : Texts) (steps : List Edit) (asked : Option ℕ) (count : ℕ) (s t : Seen) (f g : Found) → AreInOrder steps → SeeTheSame steps s t → last_seen s ≤ count → IsFound texts steps asked count s f → IsFound texts steps asked count t g → f ≡ g
one_found texts steps asked count s t f g order same last mine theirs =
    let tell = one_told steps s t same in
    let other : last_seen t ≤ count = subst (λ k. k ≤ count) tell.last last in
    let counts : f.other_count ≡ g.other_count = mine.counts ∙ sym theirs.counts in
    let bare : f.bare ≡ g.bare = one_found_bare (is_bare steps) count (is_any_bare texts steps count) f.bare g.bare (any_bare texts steps count) (mine.bare order) (theirs.bare order) (mine.stretch order) (theirs.stretch order) in
    let uncovered : f.uncovered ≡ g.uncovered = one_bool f.uncovered g.uncovered
    (λ is not. theirs.covered same.shapes same.theirs other not (mine.uncovered same.shapes same.mine last is))
    (λ is not. mine.covered same.shapes same.mine last not (theirs.uncovered same.shapes same.theirs other is)) in
    let unreached : f.unreached ≡ g.unreached = mine.unreached ∙ ap (λ rate. list_any (λ e. is_unreached count rate e) steps) tell.rate ∙ sym theirs.unreached in
    λ i. record { other_count = counts i; bare = bare i; uncovered = uncovered i; unreached = unreached i }

found_after : (outcome : Result ℕ RunFault) (kept : Bool) (texts : Texts) (steps : List Edit) (asked : Option ℕ) (s t : Seen) (f g : Found) → AreInOrder steps → SeeTheSame steps s t → IfOk outcome (λ count. last_seen s ≤ count)
    → FoundAfter outcome kept texts steps asked s f → FoundAfter outcome kept texts steps asked t g → f ≡ g
found_after (Err fault) kept texts steps asked s t f g order same last mine theirs = mine ∙ sym theirs
found_after (Ok count) false texts steps asked s t f g order same last mine theirs = mine ∙ sym theirs
found_after (Ok count) true texts steps asked s t f g order same last mine theirs = one_found texts steps asked count s t f g order same last mine theirs

pub one_ending : OneEnding
one_ending strict boxes asked texts steps outcome kept s t e f order same last mine theirs =
    let found : e.found ≡ f.found = found_after outcome kept texts steps asked s t e.found f.found order same last mine.found theirs.found in
    let status : e.status ≡ f.status = mine.status ∙ ap (status_after strict boxes outcome kept) found ∙ sym theirs.status in
    let named : e.is_named ≡ f.is_named = mine.named ∙ ap (λ k. k == 0) status ∙ sym theirs.named in
    λ i. record { status = status i; is_named = named i; found = found i }
