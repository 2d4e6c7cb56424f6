-- Spans that begin up to a frame, one after the other.
use Rattle.std.proofs.Common.{◌≡◌, ◌<◌, ◌≤◌, ◌+◌, ◌&&◌, ℕ, zero, suc, Bool, true, false, nat_le, nat_lt, if◌then◌else◌, List, [], ◌∷◌, ◌++◌, length, get_or, refl, sym, ap, ◌∙◌, subst, arith, append_assoc, append-nil}
use Rattle.std.specs.List.{AllByRecursion, filter}
use Rattle.std.specs.List.Sorted.{IsNonDecreasingBy}
use Rattle.std.proofs.lemmas.List.Elements.{filter-append}
use Rattle.frame_messages.specs.Report.{TakesBegun, first_in, has_frame}
use Rattle.frame_messages.specs.declared.report.Span.{Span}

-- so far
pub record Begun (n : ℕ) (spans rest old new : List Span) : Type 0 where
  pub begun : List Span
  pub split : spans ≡ begun ++ rest
  pub now : new ≡ old ++ begun
  pub all : AllByRecursion (λ s. s.first ≤ n) begun

pub begun_none : (n : ℕ) (spans old : List Span) → Begun n spans spans old old
begun_none n spans old = record { begun = []; split = refl; now = sym (append-nil old); all = tt }

all_snoc : (P : Span → Type 0) (xs : List Span) (x : Span) → AllByRecursion P xs → P x → AllByRecursion P (xs ++ x ∷ [])
all_snoc P [] x all p = (p, tt)
all_snoc P (y ∷ xs) x all p = (all.0, all_snoc P xs x all.1 p)

pub begun_more : (n : ℕ) (spans rest old new : List Span) (s : Span) (others : List Span) → rest ≡ s ∷ others → s.first ≤ n → Begun n spans rest old new → Begun n spans others old (new ++ s ∷ [])
begun_more n spans rest old new s others is order b = record {
  begun = b.begun ++ s ∷ [];
  split = b.split ∙ ap (λ l. b.begun ++ l) is ∙ sym (append_assoc b.begun (s ∷ []) others);
  now = ap (λ l. l ++ s ∷ []) b.now ∙ append_assoc old b.begun (s ∷ []);
  all = all_snoc (λ s. s.first ≤ n) b.begun s b.all order;
}

-- no other is left
pub begun_end : (n : ℕ) (spans rest old new : List Span) → length rest < 1 → Begun n spans rest old new → TakesBegun n spans rest old new
begun_end n spans rest old new none b = record { begun = b.begun; split = b.split; now = b.now; all = b.all; next = λ s others is. absurd (omega (arith, none, ap length is)) }

head_is : (s t : Span) (others more : List Span) → s ∷ others ≡ t ∷ more → s ≡ t
head_is s t others more is = cc

-- the next begins later
pub begun_later : (n : ℕ) (spans rest old new : List Span) (s : Span) (others : List Span) → rest ≡ s ∷ others → n < s.first → Begun n spans rest old new → TakesBegun n spans rest old new
begun_later n spans rest old new s others is order b = record { begun = b.begun; split = b.split; now = b.now; all = b.all; next = λ t more same. subst (λ (x : Span). n < x.first) (head_is s t others more (sym is ∙ same)) order }

-- ---- those of a frame

-- those that have begun before a frame, and haven't ended before it
pub record Standing (n : ℕ) (spans rest now : List Span) : Type 0 where
  pub taken : List Span
  pub split : spans ≡ taken ++ rest
  pub all : AllByRecursion (λ s. s.first < n) taken
  pub is : now ≡ filter (λ s. nat_le n s.end) taken

all_append : (P : Span → Type 0) (xs ys : List Span) → AllByRecursion P xs → AllByRecursion P ys → AllByRecursion P (xs ++ ys)
all_append P [] ys all others = others
all_append P (x ∷ xs) ys all others = (all.0, all_append P xs ys all.1 others)

all_map : (P Q : Span → Type 0) → ((s : Span) → P s → Q s) → (xs : List Span) → AllByRecursion P xs → AllByRecursion Q xs
all_map P Q f [] all = tt
all_map P Q f (x ∷ xs) all = (f x all.0, all_map P Q f xs all.1)

suffix_rises : (xs ys : List Span) → IsNonDecreasingBy first_in (xs ++ ys) → IsNonDecreasingBy first_in ys
suffix_rises [] ys rises = rises
suffix_rises (x ∷ xs) ys rises = suffix_rises xs ys (λ i j d order within. rises (suc i) (suc j) d (omega (arith, order)) (omega (arith, within)))

later_all : (n : ℕ) (ys : List Span) → ((s : Span) (others : List Span) → ys ≡ s ∷ others → n < s.first) → IsNonDecreasingBy first_in ys → AllByRecursion (λ s. n < s.first) ys
later_all n [] first rises = tt
later_all n (s ∷ ys) first rises = (
  first s ys refl,
  later_all n ys (λ t others is. (
      let head : n < s.first = first s ys refl in
      let more : length ys ≡ length others + 1 = omega (arith, ap length is) in
      let order : s.first ≤ (get_or ys 0 t).first = rises zero (suc zero) t (omega arith) (omega (arith, more)) in
      let there : get_or ys 0 t ≡ t = ap (λ l. get_or l 0 t) is in
      subst (λ (x : Span). n < x.first) there (omega (arith, head, order))))
      (λ i j d order within. rises (suc i) (suc j) d (omega (arith, order)) (omega (arith, within))),
)

le_true : (a b : ℕ) → a ≤ b → nat_le a b ≡ true
le_true a b order = grind (arith, order)

le_false : (a b : ℕ) → b < a → nat_le a b ≡ false
le_false a b order = grind (arith, order)

-- of those that have begun the others have ended
has_begun : (n : ℕ) (xs : List Span) → AllByRecursion (λ s. s.first ≤ n) xs → filter (has_frame n) xs ≡ filter (λ s. nat_lt n s.end) xs
has_begun n [] all = refl
has_begun n (s ∷ xs) all =
    let here : has_frame n s ≡ nat_lt n s.end = ap (λ (b : Bool). b && nat_lt n s.end) (le_true s.first n all.0) in
    let rest = has_begun n xs all.1 in
    (λ i. if here i then s ∷ rest i else rest i)

has_none : (n : ℕ) (xs : List Span) → AllByRecursion (λ s. n < s.first) xs → filter (has_frame n) xs ≡ []
has_none n [] all = refl
has_none n (s ∷ xs) all =
    let here : has_frame n s ≡ false = ap (λ (b : Bool). b && nat_lt n s.end) (le_false s.first n all.0) in
    let rest = has_none n xs all.1 in
    (λ i. if here i then s ∷ rest i else rest i)

-- one that hasn't ended after a frame hasn't before it
narrower : (n : ℕ) (xs : List Span) → filter (λ s. nat_lt n s.end) (filter (λ s. nat_le n s.end) xs) ≡ filter (λ s. nat_lt n s.end) xs
narrower n [] = refl
narrower n (s ∷ xs) = grind (arith, narrower n xs)

later_end : (n : ℕ) (xs : List Span) → filter (λ s. nat_lt n s.end) xs ≡ filter (λ s. nat_le (n + 1) s.end) xs
later_end n [] = refl
later_end n (s ∷ xs) =
    let rest = later_end n xs in
    let here : nat_lt n s.end ≡ nat_le (n + 1) s.end = grind arith in
    (λ i. if here i then s ∷ rest i else rest i)

module _ (n : ℕ) (spans rest left now more kept : List Span) (stand : Standing n spans rest now) (take : TakesBegun n rest left now more) (retained : kept ≡ filter (λ s. nat_lt n s.end) more) where
  abbrev taken : List Span
  taken = stand.taken ++ take.begun

  split : spans ≡ taken ++ left
  split = stand.split ∙ ap (λ l. stand.taken ++ l) take.split ∙ sym (append_assoc stand.taken take.begun left)

  all : AllByRecursion (λ s. s.first ≤ n) taken
  all = all_append (λ s. s.first ≤ n) stand.taken take.begun (all_map (λ s. s.first < n) (λ s. s.first ≤ n) (λ s before. omega (arith, before)) stand.taken stand.all) take.all

  kept_is : kept ≡ filter (λ s. nat_lt n s.end) taken
  kept_is =
      retained ∙ ap (filter (λ s. nat_lt n s.end)) (take.now ∙ ap (λ l. l ++ take.begun) stand.is) ∙ filter-append (λ s. nat_lt n s.end) (filter (λ s. nat_le n s.end) stand.taken) take.begun ∙ ap (λ l. l ++ filter (λ s. nat_lt n s.end) take.begun) (narrower n stand.taken)
      ∙ sym (filter-append (λ s. nat_lt n s.end) stand.taken take.begun)

  -- those of the frame
  pub of_frame : IsNonDecreasingBy first_in spans → kept ≡ filter (has_frame n) spans
  of_frame rises =
      let later = later_all n left take.next (suffix_rises taken left (subst (IsNonDecreasingBy first_in) split rises)) in
      kept_is ∙ sym (has_begun n taken all) ∙ sym (append-nil (filter (has_frame n) taken)) ∙ ap (λ l. filter (has_frame n) taken ++ l) (sym (has_none n left later)) ∙ sym (filter-append (has_frame n) taken left) ∙ ap (filter (has_frame n)) (sym split)

  -- and of the next
  pub still_standing : Standing (n + 1) spans left kept
  still_standing = record {
    taken = taken;
    split = split;
    all = all_map (λ s. s.first ≤ n) (λ s. s.first < n + 1) (λ s order. omega (arith, order)) taken all;
    is = kept_is ∙ later_end n taken;
  }
