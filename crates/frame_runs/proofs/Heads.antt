-- The head of a picture, read a byte at a time.
use Rattle.std.proofs.Common.{◌≡◌, ℕ, ◌<◌, ◌≤◌, ◌+◌, List, [], ◌∷◌, ◌++◌, ◌⊎◌, Option, Some, None, refl, sym, ap, ◌∙◌, append-nil, inl, inr, length, length-append, arith, IfSome}
use Rattle.std.specs.Io.KnownBytes.{Consumes, Keeps}
use Rattle.std.proofs.KnownBytes.{Consumes-kept, Consumes-trans}
use Rattle.frame_texts.specs.Picture.{picture_of, scanned, pushed, start, done_as, OneByteMore, BadStays, BeginsWithLetter}
use Rattle.frame_edits.specs.Edits.{Edits}
use Rattle.frame_texts.specs.declared.picture.Picture.{Picture}
use Rattle.frame_texts.specs.declared.picture.Scan.{Scan}
use Rattle.frame_texts.specs.declared.picture.Scan.TheVariants.{Bad}
use Rattle.frame_runs.specs.Pictures.{IsNoPicture, HeadBegun, HeadCut, behind_letter}
use Rattle.frame_runs.specs.Passing.{IsNoNext}

-- ---- lists

-- a beginning of a list with one more is all of it, or a beginning of the list
but_last : (head more bytes : List ℕ) (b : ℕ) → bytes ++ b ∷ [] ≡ head ++ more → (more ≡ []) ⊎ ((rest : List ℕ) × (bytes ≡ head ++ rest))
but_last [] more bytes b e = inr (bytes, refl)
but_last (x ∷ []) more [] b e = inl (cc)
but_last (x ∷ (y ∷ head)) more [] b e = absurd (let bad : [] ≡ y ∷ (head ++ more) = cc in cc)
but_last (x ∷ head) more (y ∷ bytes) b e =
    let heads : y ≡ x = cc in
    let tails : bytes ++ b ∷ [] ≡ head ++ more = cc in
    elim (but_last head more bytes b tails) [ inl none ↦ inl none | inr r ↦ inr (r.0, λ i. heads i ∷ r.1 i) ]

-- of two beginnings of a list one begins the other
pub either_begins : (xs ys a b : List ℕ) → xs ++ a ≡ ys ++ b → ((c : List ℕ) × (ys ≡ xs ++ c)) ⊎ ((c : List ℕ) × (xs ≡ ys ++ c))
either_begins [] ys a b e = inl (ys, refl)
either_begins (x ∷ xs) [] a b e = inr (x ∷ xs, refl)
either_begins (x ∷ xs) (y ∷ ys) a b e =
    let heads : x ≡ y = cc in
    let tails : xs ++ a ≡ ys ++ b = cc in
    elim (either_begins xs ys a b tails) [ inl l ↦ inl (l.0, λ i. sym heads i ∷ l.1 i) | inr r ↦ inr (r.0, λ i. heads i ∷ r.1 i) ]

-- ---- the scan

letter_read : (left : Option (List ℕ)) → Consumes (behind_letter left) left (80 ∷ [])
letter_read None = tt
letter_read (Some bytes) = refl

letter_begins : (picture : Picture) (head more : List ℕ) → picture_of head ≡ Some picture → 80 ∷ [] ≡ head ++ more → more ≡ []
letter_begins picture [] more named is = absurd (let bad : None ≡ Some picture = named in cc)
letter_begins picture (b ∷ []) more named is = cc
letter_begins picture (b ∷ (c ∷ head)) more named is = absurd (let bad : [] ≡ c ∷ (head ++ more) = cc in cc)

pub begun_letter : (left : Option (List ℕ)) → HeadBegun 0 (pushed start 80) left left
begun_letter left = record { bytes = 80 ∷ []; count_is = refl; read = letter_read left; scan_is = refl; none = letter_begins }

no_head_yet : (count : ℕ) (scan : Scan) (old new : Option (List ℕ)) → HeadBegun count scan old new → done_as scan ≡ None → (picture : Picture) (head more : List ℕ) → picture_of head ≡ Some picture → (begun : List ℕ) → begun ≡ head ++ more → ((b : List ℕ) → b ≡ begun → scan ≡ scanned start b) → more ≡ [] → ⊥
no_head_yet count scan old new h goes_on picture head more named begun is scan_is none =
    let whole : head ≡ begun = sym (is ∙ ap (λ l. head ++ l) none ∙ append-nil head) in
    let bad : Some picture ≡ None = sym named ∙ ap done_as (sym (scan_is head whole)) ∙ goes_on in
    cc

pub begun_more : OneByteMore → (count : ℕ) (scan : Scan) (b : ℕ) (old mid new : Option (List ℕ)) → HeadBegun count scan old mid → done_as scan ≡ None → Consumes mid new (b ∷ []) → HeadBegun (count + 1) (pushed scan b) old new
begun_more law count scan b old mid new h goes_on read = record {
  bytes = h.bytes ++ b ∷ [];
  count_is = omega (arith, length-append h.bytes (b ∷ []), h.count_is);
  read = Consumes-trans (behind_letter old) mid new h.bytes (b ∷ []) h.read read;
  scan_is = ap (λ s. pushed s b) h.scan_is ∙ sym (law start h.bytes b);
  none = λ picture head more named is. elim (but_last head more h.bytes b is) [
    | inl none ↦ none
    | inr r ↦ absurd (no_head_yet count scan old mid h goes_on picture head r.0 named h.bytes r.1 (λ l same. h.scan_is ∙ ap (scanned start) (sym same)) (h.none picture head r.0 named r.1))
  ];
}

bad_head : BadStays → (count : ℕ) (old new : Option (List ℕ)) (h : HeadBegun count Bad old new) (bytes left : List ℕ) → bytes ≡ h.bytes ++ left → IsNoPicture bytes
bad_head law count old new h bytes left read = λ picture head more is_head is. elim (either_begins h.bytes head left more (sym read ∙ is)) [
  | inl l ↦ (let bad : Some picture ≡ None = sym is_head.named ∙ ap picture_of l.1 ∙ law h.bytes l.0 (sym h.scan_is) in cc)
  | inr r ↦ no_head_yet count Bad old new h refl picture head r.0 is_head.named h.bytes r.1 (λ l same. h.scan_is ∙ ap (scanned start) (sym same)) (h.none picture head r.0 is_head.named r.1)
]

pub head_bad : BadStays → (count : ℕ) (old new : Option (List ℕ)) → HeadBegun count Bad old new → IfSome (behind_letter old) IsNoPicture
head_bad law count None new h = tt
head_bad law count (Some bytes) None h = absurd h.read
head_bad law count (Some bytes) (Some left) h = bad_head law count (Some bytes) (Some left) h (80 ∷ bytes) left h.read

-- of more bytes than a head may have no head is among those that were begun
long_head : (count : ℕ) → 65536 ≤ count → (scan : Scan) (old new : Option (List ℕ)) (h : HeadBegun count scan old new) (bytes left : List ℕ) → bytes ≡ h.bytes ++ left → IsNoPicture bytes
long_head count many scan old new h bytes left read = λ picture head more is_head is. elim (either_begins h.bytes head left more (sym read ∙ is)) [
  | inl l ↦ omega (arith, ap length l.1, length-append h.bytes l.0, h.count_is, is_head.counted, many)
  | inr r ↦ omega (arith, ap length r.1, length-append head r.0, ap length (h.none picture head r.0 is_head.named r.1), h.count_is, is_head.counted, many)
]

pub head_long : (count : ℕ) (scan : Scan) (old new : Option (List ℕ)) → HeadBegun count scan old new → 65536 ≤ count → IfSome (behind_letter old) IsNoPicture
head_long count scan None new h many = tt
head_long count scan (Some bytes) None h many = absurd h.read
head_long count scan (Some bytes) (Some left) h many = long_head count many scan (Some bytes) (Some left) h (80 ∷ bytes) left h.read

-- the reader failed before the head was whole
pub head_cut : (count : ℕ) (scan : Scan) (old mid new : Option (List ℕ)) → HeadBegun count scan old mid → done_as scan ≡ None → Keeps mid new → HeadCut old new
head_cut count scan old mid new h goes_on kept = record {
  bytes = h.bytes;
  read = Consumes-kept (behind_letter old) mid new h.bytes h.read kept;
  are = (
    λ none. omega (arith, ap length none, h.count_is),
    λ picture head more is_head is. no_head_yet count scan old mid h goes_on picture head more is_head.named h.bytes is (λ l same. h.scan_is ∙ ap (scanned start) (sym same)) (h.none picture head more is_head.named is),
  );
}

-- ---- no pictures

-- what follows pictures and begins with no head isn't a picture
pub no_next : (edit : Edits) (count : ℕ) → 0 < count → (old : Option (List ℕ)) → IfSome (behind_letter old) IsNoPicture → IfSome (behind_letter old) (IsNoNext edit count)
no_next edit count some None none = tt
no_next edit count some (Some bytes) none = record { some = λ e. cc; none = inr (inl (some, none)) }

-- no picture begins with another letter
pub no_letter : BeginsWithLetter → (b : ℕ) → (b ≡ 80 → ⊥) → (old new : Option (List ℕ)) → Consumes old new (b ∷ []) → IfSome old IsNoPicture
no_letter law b other None new read = tt
no_letter law b other (Some bytes) None read = absurd read
no_letter law b other (Some bytes) (Some rest) read = λ picture head more is_head is.
    let letter = law head picture is_head.named in
    other (let same : b ∷ rest ≡ 80 ∷ (letter.0 ++ more) = sym read ∙ is ∙ ap (λ l. l ++ more) letter.1 in cc)

pub other_letter : BeginsWithLetter → (edit : Edits) (count b : ℕ) → 0 < count → (b ≡ 80 → ⊥) → (old new : Option (List ℕ)) → Consumes old new (b ∷ []) → IfSome old (IsNoNext edit count)
other_letter law edit count b behind other None new read = tt
other_letter law edit count b behind other (Some bytes) None read = absurd read
other_letter law edit count b behind other (Some bytes) (Some rest) read = record {
  some = λ none. (let bad : [] ≡ b ∷ rest = sym none ∙ read in cc);
  none = inr (inl (behind, no_letter law b other (Some bytes) (Some rest) read));
}

-- after the last picture that a number counts
pub last_letter : (edit : Edits) (left : Option (List ℕ)) → IfSome (behind_letter left) (IsNoNext edit 18446744073709551615)
last_letter edit None = tt
last_letter edit (Some bytes) = record { some = λ e. cc; none = inl refl }
