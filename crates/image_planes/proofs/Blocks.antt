-- Steps block by block: a block whose span lacks a frame changes nothing of it.
use Rattle.std.proofs.Common.{◌≡◌, ℕ, zero, suc, ◌+◌, ◌<◌, ◌≤◌, ◌&&◌, Bool, true, false, cond, List, [], ◌∷◌, ◌++◌, length, get_or, take, drop, max, min, refl, ap, ap₂, sym, ◌∙◌, ◌/◌, ◌%◌, arith, inl, inr, append_assoc, drop-drop, length-drop, zero-mul, suc-mul, ◌*◌}
use Rattle.std.proofs.Math.Nat.{min-eq_left, min-eq_right}
use Rattle.std.proofs.lemmas.Bool.{cases_lt}
use Rattle.std.proofs.lemmas.Nat.{div-add-mod'}
use Rattle.std.proofs.lemmas.List.{take_all, drop_all}
use Rattle.std.proofs.lemmas.List.Folds.{list_all_more}
use Rattle.image_model.specs.Grid.{Grid, grid_of}
use Rattle.image_model.specs.Layout.{SameOutside}
use Rattle.image_model.proofs.Places.{outside_refl, outside_trans}
use Rattle.image_shape.specs.Shape.{shaped, shape_width, shape_height}
use Rattle.image_shape.specs.declared.shape.Shape.{Shape}
use Rattle.image_planes.specs.Changes.{are_inside, changed, names, stepped}
use Rattle.image_planes.specs.Scratch.{have_room}
use Rattle.image_planes.specs.Spans.{are_groups, are_spans, has, has_all, are_spans_by}
use Rattle.image_planes.specs.declared.change.Step.{Step}
use Rattle.image_planes.specs.declared.spans.Span.{Span}

both : (a b : Bool) → (a && b) ≡ true → (a ≡ true) × (b ≡ true)
both a b e = grind arith

and_both : (a b : Bool) → a ≡ true → b ≡ true → (a && b) ≡ true
and_both a b e f = grind arith

not_named : (span : Span) (s : Step (List ℕ)) (ss : List (Step (List ℕ))) (number : ℕ) → has_all span (s ∷ ss) ≡ true → has span number ≡ false → names s number ≡ false
not_named span s ss number within lacks = grind arith

pub block_skipped : (size number : ℕ) (span : Span) (steps : List (Step (List ℕ))) (g : Grid ℕ) → has_all span steps ≡ true → has span number ≡ false → stepped size number steps g ≡ g
block_skipped size number span [] g all lacks = refl
block_skipped size number span (s ∷ ss) g all lacks =
    let none = not_named span s ss number all lacks in
    rw none (block_skipped size number span ss g (both _ (has_all span ss) all).1 lacks)

-- a block, and then the steps after it
pub in_parts : (size number n : ℕ) (steps : List (Step (List ℕ))) (g : Grid ℕ) → stepped size number (drop n steps) (stepped size number (take n steps) g) ≡ stepped size number steps g
in_parts size number zero steps g = refl
in_parts size number (suc n) [] g = refl
in_parts size number (suc n) (s ∷ ss) g = in_parts size number n ss (cond (names s number) (changed size s.change g) g)

pub inside_parts : (width height n : ℕ) (steps : List (Step (List ℕ))) → are_inside width height steps ≡ true → (are_inside width height (take n steps) ≡ true) × (are_inside width height (drop n steps) ≡ true)
inside_parts width height zero steps all = (refl, all)
inside_parts width height (suc n) [] all = (refl, refl)
inside_parts width height (suc n) (s ∷ ss) all = grind (arith, inside_parts width height n ss)

pub room_parts : (len row copy sums n : ℕ) (steps : List (Step (List ℕ))) → have_room len row copy sums steps ≡ true → (have_room len row copy sums (take n steps) ≡ true) × (have_room len row copy sums (drop n steps) ≡ true)
room_parts len row copy sums zero steps all = (refl, all)
room_parts len row copy sums (suc n) [] all = (refl, refl)
room_parts len row copy sums (suc n) (s ∷ ss) all = grind (arith, room_parts len row copy sums n ss)

-- a list that ends within a block is all of it
pub take_upto : {A : Type 0} (n : ℕ) (xs : List A) → take (min (length xs) n) xs ≡ take n xs
take_upto n xs =
    elim (cases_lt (length xs) n) [
      | inl short ↦ ap (λ k. take k xs) (min-eq_left (omega (arith, short))) ∙ take_all (length xs) xs (omega arith) ∙ sym (take_all n xs (omega (arith, short)))
      | inr long ↦ ap (λ k. take k xs) (min-eq_right long)
    ]

pub drop_upto : {A : Type 0} (n : ℕ) (xs : List A) → drop (min (length xs) n) xs ≡ drop n xs
drop_upto n xs =
    elim (cases_lt (length xs) n) [
      | inl short ↦ ap (λ k. drop k xs) (min-eq_left (omega (arith, short))) ∙ drop_all (length xs) xs (omega arith) ∙ sym (drop_all n xs (omega (arith, short)))
      | inr long ↦ ap (λ k. drop k xs) (min-eq_right long)
    ]

-- a longer span has them too
wider : (old new : Span) (steps : List (Step (List ℕ))) → new.first ≤ old.first → old.end ≤ new.end → has_all old steps ≡ true → has_all new steps ≡ true
wider old new [] first end all = refl
wider old new (s ∷ ss) first end all = grind (arith, wider old new ss)

-- the span of one step more
pub one_step_more : (old new : Span) (steps : List (Step (List ℕ))) (i : ℕ) (d : Step (List ℕ)) → i < length steps → new.first ≡ min old.first (get_or steps i d).first → new.end ≡ max old.end (get_or steps i d).end → has_all old (take i steps) ≡ true → has_all new (take (i + 1) steps) ≡ true
one_step_more old new steps i d within first end all =
    let others : has_all new (take i steps) ≡ true = wider old new (take i steps) (omega (arith, first)) (omega (arith, end)) all in
    list_all_more _ steps i d within ∙ and_both (has_all new (take i steps)) _ others (grind (arith, first, end))

-- the spans of one block more
pub one_span_more : (many : ℕ) (made rest : List Span) (span : Span) (steps left : List (Step (List ℕ))) → ((others : List Span) → are_spans_by many others left ≡ true → are_spans_by many (made ++ others) steps ≡ true) → has_all span (take many left) ≡ true → are_spans_by many rest (drop many left) ≡ true → are_spans_by many ((made ++ span ∷ []) ++ rest) steps ≡ true
one_span_more many made rest span steps left so_far all are = rw append_assoc (so_far (span ∷ rest) (and_both (has_all span (take many left)) (are_spans_by many rest (drop many left)) all are))

-- a step is in a block, which has a span
span_over : (many : ℕ) (spans : List Span) (i : ℕ) (d : Span) (steps : List (Step (List ℕ))) → are_spans_by many spans steps ≡ true → i * many < length steps → (i < length spans) × (has_all (get_or spans i d) (take many (drop (i * many) steps)) ≡ true)
span_over many [] i d steps are there = let none : length steps ≡ 0 = grind (arith, are) in absurd (omega (arith, none, there))
span_over many (s ∷ ss) zero d steps are there = rw (zero-mul many) (omega arith, (both (has_all s (take many steps)) (are_spans_by many ss (drop many steps)) are).0)
span_over many (s ∷ ss) (suc i) d steps are there =
    let one_more : suc i * many ≡ many + i * many = omega (arith, suc-mul i many) in
    let more = span_over many ss i d (drop many steps) (both (has_all s (take many steps)) (are_spans_by many ss (drop many steps)) are).1 (omega (arith, there, one_more, length-drop many steps)) in
    (omega (arith, more.0), rw one_more (ap (λ (l : List (Step (List ℕ))). has_all (get_or ss i d) (take many l)) (sym (drop-drop (i * many) many steps)) ∙ more.1))

some_left : {A : Type 0} (k : ℕ) (xs left : List A) → left ≡ drop k xs → 0 < length left → k < length xs
some_left k xs left at some = omega (arith, some, ap length at, length-drop k xs)

-- the steps that are left begin with a block
pub block_over : (spans : List Span) (block : ℕ) (d : Span) (steps left : List (Step (List ℕ))) → are_spans spans steps ≡ true → left ≡ drop (block * 64) steps → 0 < length left → (block < length spans) × (has_all (get_or spans block d) (take 64 left) ≡ true)
block_over spans block d steps left are at some =
    let one = span_over 64 spans block d steps are (some_left (block * 64) steps left at some) in
    (one.0, ap (λ (l : List (Step (List ℕ))). has_all (get_or spans block d) (take 64 l)) at ∙ one.1)

-- they begin with a group where this is the first of its blocks
pub group_over : (groups : List Span) (block : ℕ) (d : Span) (steps left : List (Step (List ℕ))) → are_groups groups steps ≡ true → left ≡ drop (block * 64) steps → 0 < length left → (block / 64 < length groups) × (block % 64 ≡ 0 → has_all (get_or groups (block / 64) d) (take 4096 left) ≡ true)
group_over groups block d steps left are at some =
    let parts = div-add-mod' block 64 in
    let one = span_over 4096 groups (block / 64) d steps are (omega (arith, parts, some_left (block * 64) steps left at some)) in
    (one.0, λ first. let same : block * 64 ≡ block / 64 * 4096 = omega (arith, parts, first) in ap (λ (l : List (Step (List ℕ))). has_all (get_or groups (block / 64) d) (take 4096 l)) (at ∙ ap (λ k. drop k steps) same) ∙ one.1)

-- where the steps after so many begin
pub next_at : {A : Type 0} (k n next : ℕ) (xs left others : List A) → left ≡ drop k xs → others ≡ drop n left → next ≡ k + n → others ≡ drop next xs
next_at k n next xs left others at back is = back ∙ ap (λ l. drop n l) at ∙ drop-drop n k xs ∙ ap (λ m. drop m xs) (sym is)

-- the steps that are left make of what is there what all of them make of what was there
pub record StepsLeft (s : Shape) (size number copy sums : ℕ) (steps left : List (Step (List ℕ))) (old now : List ℕ) : Type 0 where
  pub grid : stepped size number left (grid_of (shaped now s)) ≡ stepped size number steps (grid_of (shaped old s))
  pub outside : SameOutside (shaped old s) (shaped now s)
  pub inside : are_inside (shape_width s / size) (shape_height s) left ≡ true
  pub room : have_room (length old) (shape_width s) copy sums left ≡ true

-- a block of them is skipped or done, and the others are left
pub block_done : (s : Shape) (size number copy sums n : ℕ) (steps left others : List (Step (List ℕ))) (old now new : List ℕ) → StepsLeft s size number copy sums steps left old now → others ≡ drop n left
    → grid_of (shaped new s) ≡ stepped size number (take n left) (grid_of (shaped now s)) → SameOutside (shaped now s) (shaped new s) → StepsLeft s size number copy sums steps others old new
block_done s size number copy sums n steps left others old now new so back done outside = record {
  grid = ap₂ (λ ss g. stepped size number ss g) back done ∙ in_parts size number n left (grid_of (shaped now s)) ∙ so.grid;
  outside = outside_trans _ _ _ so.outside outside;
  inside = ap (are_inside (shape_width s / size) (shape_height s)) back ∙ (inside_parts (shape_width s / size) (shape_height s) n left so.inside).1;
  room = ap (have_room (length old) (shape_width s) copy sums) back ∙ (room_parts (length old) (shape_width s) copy sums n left so.room).1;
}

-- it is skipped where its span lacks the frame
pub block_passed : (s : Shape) (size number copy sums n : ℕ) (span : Span) (steps left others : List (Step (List ℕ))) (old now : List ℕ) → StepsLeft s size number copy sums steps left old now → others ≡ drop n left → has_all span (take n left) ≡ true → has span number ≡ false → StepsLeft s size number copy sums steps others old now
block_passed s size number copy sums n span steps left others old now so back all lacks =
    block_done s size number copy sums n steps left others old now now so back (sym (block_skipped size number span (take n left) (grid_of (shaped now s)) all lacks)) (outside_refl (shaped now s))
