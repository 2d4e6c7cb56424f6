-- Items that become others one after the other, where each becomes something.
use Rattle.std.proofs.Common.{◌≡◌, ◌≢◌, ℕ, zero, suc, arith, ◌+◌, ◌<◌, ◌≤◌, List, [], ◌∷◌, ◌++◌, Option, Some, None, Result, Ok, Err, IfErr, length, drop, get_or, refl, sym, ap, subst, ◌∙◌, append_assoc}
use Rattle.std.specs.Option.{option_map}
use Rattle.std.proofs.lemmas.List.{append-nil, at_drop_more, at_drop_all}
use Rattle.texts.specs.Reading.{◌>>=◌}
use Rattle.image_commands.specs.declared.changes.Change.{Change}
use Rattle.image_planes.specs.declared.change.Step.{Step}
use Rattle.frame_edits.specs.Covers.{frames_for, settled_by}
use Rattle.frame_formats.specs.Steps.{step_in}
use Rattle.frame_formats.specs.Plan.{Tells}
use Rattle.frame_formats.specs.Steps.{StartsWell, all_some, first_made, step_by}
use Rattle.frame_edits.specs.declared.covers.Unit.{Unit}
use Rattle.frame_formats.specs.declared.plans.PlanFault.{PlanFault}
use Rattle.frame_formats.specs.declared.plans.PlanFault.TheVariants.{Outside, Memory}
use Rattle.frame_texts.specs.declared.rate.Rate.{Rate}
use Rattle.frame_edits.specs.declared.paint.Paint.{Paint}
use Rattle.frame_edits.specs.declared.words.Edit.{Edit}

-- what is made, after what was made before
abbrev pub with_front : {B : Type 0} → List B → Option (List B) → Option (List B)
with_front front rest = option_map (λ ys. front ++ ys) rest

grown : {B : Type 0} (front : List B) (y : B) (rest : Option (List B)) → with_front front (rest >>= λ ys. Some (y ∷ ys)) ≡ with_front (front ++ y ∷ []) rest
grown front y None = refl
grown front y (Some ys) = ap (λ l. Some l) (sym (append_assoc front (y ∷ []) ys))

no_rest : {B : Type 0} (y : Option B) (ys : Option (List B)) (all : List B) → y ≡ None → (y >>= λ z. ys >>= λ zs. Some (z ∷ zs)) ≡ Some all → ⊥
no_rest None ys all none made = cc
no_rest (Some y) ys all none made = cc

pub one_more : {A B : Type 0} (f : A → Option B) (front : List B) (xs : List A) (i : ℕ) (d : A) (y : B) (total : Option (List B)) → i < length xs → f (get_or xs i d) ≡ Some y
    → with_front front (all_some f (drop i xs)) ≡ total → with_front (front ++ y ∷ []) (all_some f (drop (i + 1) xs)) ≡ total
unfolding all_some
one_more f front xs i d y total within found so_far =
    let one : with_front front (all_some f (drop i xs)) ≡ with_front (front ++ y ∷ []) (all_some f (drop (i + 1) xs)) =
    at_drop_more (λ ys. with_front front (all_some f ys)) xs i d within ∙ rw found (grown front y (all_some f (drop (i + 1) xs))) in
    sym one ∙ so_far

pub one_stops : {A B : Type 0} (f : A → Option B) (front : List B) (xs : List A) (i : ℕ) (d : A) (total : Option (List B)) → i < length xs → f (get_or xs i d) ≡ None
    → with_front front (all_some f (drop i xs)) ≡ total → total ≡ None
unfolding all_some
one_stops f front xs i d total within found so_far =
    let one : with_front front (all_some f (drop i xs)) ≡ None = at_drop_more (λ ys. with_front front (all_some f ys)) xs i d within ∙ rw found refl in
    sym so_far ∙ one

pub all_done : {A B : Type 0} (f : A → Option B) (front : List B) (xs : List A) (i : ℕ) (total : Option (List B)) → length xs ≤ i → with_front front (all_some f (drop i xs)) ≡ total → total ≡ Some front
unfolding all_some
all_done f front xs i total past so_far =
    let one : with_front front (all_some f (drop i xs)) ≡ Some front = at_drop_all (λ ys. with_front front (all_some f ys)) xs i past ∙ ap (λ l. Some l) (append-nil front) in
    sym so_far ∙ one

-- the first item becomes something: this one is it, or comes after it
pub first_more : {A B : Type 0} (f : A → Option B) (xs : List A) (i : ℕ) (d : A) → i < length xs → f (get_or xs i d) ≢ None → (0 < i → first_made f xs ≢ None) → first_made f xs ≢ None
first_more f [] i d within here so_far = absurd (omega (arith, within))
first_more f (x ∷ xs) zero d within here so_far = here
first_more f (x ∷ xs) (suc i) d within here so_far = so_far (omega arith)

-- all become something, or the first does
pub starts_made : {A B : Type 0} (f : A → Option B) (xs : List A) (ys : List B) → all_some f xs ≡ Some ys → StartsWell f xs
unfolding all_some
starts_made f [] ys made some = absurd (omega (arith, some))
starts_made f (x ∷ xs) ys made some = λ none. no_rest (f x) (all_some f xs) ys none made

pub starts_first : {A B : Type 0} (f : A → Option B) (xs : List A) → first_made f xs ≢ None → StartsWell f xs
starts_first f xs first some = first

-- a step whose change becomes one, or none
pub step_made : {V W : Type 0} (become : Change V → Option (Change W)) (s : Step V) (change : Change W) → become s.change ≡ Some change → step_by become s ≡ Some (record { first = s.first; end = s.end; change = change })
step_made become s change e = rw e refl

pub no_step : {V W : Type 0} (become : Change V → Option (Change W)) (s : Step V) → become s.change ≡ None → step_by become s ≡ None
no_step become s e = rw e refl

-- an edit that has these frames, or none
pub edit_settled : (unit : Unit) (rate : Option Rate) (width height : ℕ) (e : Edit) (first end : ℕ) (change : Change Paint) → frames_for unit rate e ≡ Some (first, end) → change ≡ settled_by e.scope unit width height e.change → step_in unit rate width height e ≡ Some (record { first = first; end = end; change = change })
edit_settled unit rate width height e first end change found is = rw (found, is) refl

pub edit_stops : (unit : Unit) (rate : Option Rate) (width height : ℕ) (e : Edit) → frames_for unit rate e ≡ None → step_in unit rate width height e ≡ None
edit_stops unit rate width height e found = rw found refl

pub starts_as : (unit other : Unit) (rate given : Option Rate) (width height : ℕ) (es : List Edit) (all : List (Step Paint)) → unit ≡ other → rate ≡ given → all_some (step_in unit rate width height) es ≡ Some all → StartsWell (step_in other given width height) es
starts_as unit other rate given width height es all same at made =
    subst (λ (u : Unit). StartsWell (step_in u given width height) es) same
    (subst (λ (r : Option Rate). StartsWell (step_in unit r width height) es) at (starts_made (step_in unit rate width height) es all made))

-- this is so at any fault
pub at_memory : {T P : Type 0} (r : Result T PlanFault) → P → IfErr r (λ e. e ≡ Memory → P)
at_memory (Ok x) here = tt
at_memory (Err e) here = λ same. here

-- what stops one item stops all
pub tells_more : (none all : Type 0) (fault : PlanFault) → (none → all) → Tells none fault → Tells all fault
tells_more none all Outside stops tells = stops tells
tells_more none all Memory stops tells = tells
