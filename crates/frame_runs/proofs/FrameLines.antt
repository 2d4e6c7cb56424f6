-- The line of a frame is read in one way.
use Rattle.std.proofs.Common.{◌≡◌, ◌≢◌, ℕ, ◌+◌, ◌<◌, List, [], ◌∷◌, ◌++◌, ◌⊎◌, Option, Some, None, length, take, refl, sym, ap, ◌∙◌, subst, arith, append_assoc, append-nil, length-append, IfSome, codes, inl, inr}
use Rattle.std.specs.Io.KnownBytes.{Consumes, Appends, IsAtEnd}
use Rattle.std.specs.List.{AllByRecursion}
use Rattle.std.proofs.lemmas.List.{append_cancel_left}
use Rattle.std.proofs.KnownBytes.{Appends-trans, Consumes-trans}
use lib.Seq.{take-append-add}
use Rattle.std.proofs.lemmas.List.Elements.{recursion_from_All}
use Rattle.devices.specs.Whole.{AppendsBeginning, GaveFewer, GaveNoFeed}
use Rattle.frame_runs.specs.Video.{AreParameters, frame_line}
use Rattle.frame_runs.specs.Passing.{IsNoFrameLine, LineCut}

-- bytes begin with one line at most
pub one_front : (xs ys more others : List ℕ) → AllByRecursion (λ b. b ≢ 10) xs → AllByRecursion (λ b. b ≢ 10) ys → xs ++ 10 ∷ more ≡ ys ++ 10 ∷ others → (xs ≡ ys) × (more ≡ others)
one_front [] [] more others free clear e = (refl, cc)
one_front [] (y ∷ ys) more others free clear e = absurd (clear.0 (cc))
one_front (x ∷ xs) [] more others free clear e = absurd (free.0 (cc))
one_front (x ∷ xs) (y ∷ ys) more others free clear e =
    let heads : x ≡ y = cc in
    let rest = one_front xs ys more others free.1 clear.1 (cc) in
    ((λ i. heads i ∷ rest.0 i), rest.1)

feedless : (parameters : List ℕ) → AreParameters parameters → AllByRecursion (λ b. b ≢ 10) parameters
feedless [] are = tt
feedless (b ∷ bs) are = ((λ e. absurd (omega (arith, e, are.0))), recursion_from_All _ bs are.1)

behind_word : (parameters a : List ℕ) → frame_line parameters ++ a ≡ codes "FRAME" ++ (parameters ++ 10 ∷ a)
behind_word parameters a = append_assoc (codes "FRAME") (parameters ++ 10 ∷ []) a ∙ ap (λ l. codes "FRAME" ++ l) (append_assoc parameters (10 ∷ []) a)

pub one_line : (ps qs a b : List ℕ) → AreParameters ps → AreParameters qs → frame_line ps ++ a ≡ frame_line qs ++ b → (ps ≡ qs) × (a ≡ b)
one_line ps qs a b p q e =
    let tails : ps ++ 10 ∷ a ≡ qs ++ 10 ∷ b = append_cancel_left (codes "FRAME") _ _ (sym (behind_word ps a) ∙ e ∙ behind_word qs b) in
    one_front ps qs a b (feedless ps p) (feedless qs q) tails

-- ---- what is no frame

-- bytes that end within six are no line
pub cut_line : (old new : Option (List ℕ)) (got : List ℕ) → 0 < length got → length got < 6 → Consumes old new got → IsAtEnd new → IfSome old IsNoFrameLine
cut_line None new got some short read end = tt
cut_line (Some bytes) None got some short read end = absurd read
cut_line (Some bytes) (Some rest) got some short read end = record {
  some = λ none. absurd (omega (arith, ap length none, ap length read, length-append got rest, some));
  other = λ parameters more are is.
      omega (arith, ap length is, ap length read, ap length end, length-append got rest, length-append (frame_line parameters) more, length-append (codes "FRAME") (parameters ++ 10 ∷ []), length-append parameters (10 ∷ []), short);
}

-- bytes without a line feed have no line
pub no_feed : (xs line more : List ℕ) → AllByRecursion (λ b. b ≢ 10) xs → xs ≡ line ++ 10 ∷ more → ⊥
no_feed [] [] more free is = absurd (let bad : [] ≡ 10 ∷ more = is in cc)
no_feed [] (y ∷ line) more free is = absurd (let bad : [] ≡ y ∷ (line ++ 10 ∷ more) = is in cc)
no_feed (x ∷ xs) [] more free is = free.0 (cc)
no_feed (x ∷ xs) (y ∷ line) more free is = no_feed xs line more free.1 (cc)

-- so few bytes were read that they are no line
pub word_cut : (old new : Option (List ℕ)) → GaveFewer 6 old new → LineCut old new
word_cut old new gave = record { bytes = gave.bytes; read = gave.read; are = few gave.bytes gave.are }
  where
    few : (bytes : List ℕ) → length bytes < 6 → (bytes ≡ []) ⊎ IsNoFrameLine bytes
    few [] short = inl refl
    few (b ∷ bytes) short = inr (cut_line (Some (b ∷ bytes)) (Some []) (b ∷ bytes) (omega arith) short (sym (append-nil (b ∷ bytes))) refl)

-- the word and a space were read, and then no line feed
pub parameters_cut : (old mid new : Option (List ℕ)) (word : List ℕ) (size : ℕ) → word ≡ codes "FRAME" ++ 32 ∷ [] → Consumes old mid word → GaveNoFeed size mid new → LineCut old new
parameters_cut old mid new word size is read gave = record {
  bytes = word ++ gave.bytes;
  read = Consumes-trans old mid new word gave.bytes read gave.read;
  are = inr (record {
    some = λ none. omega (arith, ap length none, length-append word gave.bytes, ap length is);
    other = λ parameters more are line.
        let tails : 32 ∷ gave.bytes ≡ parameters ++ 10 ∷ more = append_cancel_left (codes "FRAME") _ _ (ap (λ l. l ++ gave.bytes) (sym is) ∙ line ∙ behind_word parameters more) in
        no_feed (32 ∷ gave.bytes) parameters more ((λ e. absurd (omega (arith, e))), recursion_from_All _ gave.bytes gave.are.1) tails;
  });
}

-- ---- a line that was read

-- with parameters after the word and a space
pub line_in : (word ys : List ℕ) (len : ℕ) → word ≡ codes "FRAME" ++ 32 ∷ [] → take (len + 1) ys ≡ take len ys ++ 10 ∷ [] → len < length ys
    → take (len + 7) (word ++ ys) ≡ frame_line (32 ∷ take len ys)
line_in word ys len front feed within =
    let same : len + 7 ≡ length (codes "FRAME" ++ 32 ∷ []) + (len + 1) = omega arith in
    (λ i. take (same i) (front i ++ ys)) ∙ take-append-add (codes "FRAME" ++ 32 ∷ []) ys (len + 1) ∙ ap (λ l. (codes "FRAME" ++ 32 ∷ []) ++ l) feed

-- ---- a frame that was written

-- a beginning after what was written
pub begun : (a b c : Option (List ℕ)) (front back : List ℕ) → Appends a b front → AppendsBeginning b c back → AppendsBeginning a c (front ++ back)
begun a b c front back wrote part = (
  length front + part.0,
  omega (arith, length-append front back, part.1),
  subst (Appends a c) (sym (take-append-add front back part.0)) (Appends-trans a b c front (take part.0 back) wrote part.2),
)
