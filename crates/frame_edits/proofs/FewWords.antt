-- No edit has more than four words.
use Rattle.std.proofs.Common.{◌≡◌, ℕ, ◌+◌, ◌<◌, ◌≤◌, Bool, true, false, cond, List, [], ◌∷◌, Option, Some, None, length, refl, arith, inl, inr}
use Rattle.std.specs.Prelude.{◌==◌, if◌then◌else◌, IfSome, codes}
use Rattle.std.specs.Str.{bytes_eq}
use Rattle.std.specs.Option.{option_map}
use Rattle.std.proofs.lemmas.Bool.Decides.{eqb_tells}
use Rattle.texts.specs.Reading.{◌>>=◌, number_of, window_of}
use Rattle.image_shape.specs.declared.window.Window.{Window}
use Rattle.image_commands.specs.declared.changes.Axes.{Axes}
use Rattle.image_commands.specs.declared.changes.Quarter.{Quarter}
use Rattle.frame_texts.specs.Ranges.{range_of}
use Rattle.frame_texts.specs.declared.ranges.Range.{Range}
use Rattle.frame_edits.specs.declared.framing.Framing.{Framing}
use Rattle.frame_edits.specs.declared.words.Edit.{Edit}
use Rattle.frame_edits.specs.declared.words.Scope.TheVariants.{Exact}
use Rattle.frame_edits.specs.declared.framing.Framing.TheVariants.{Crop}
use Rattle.frame_texts.specs.declared.ranges.Range.TheVariants.{Frames}
use Rattle.frame_edits.specs.Lists.{edit_of}
use Rattle.frame_edits.specs.Words.{Named, axes_of, change_at, change_of, cover_at, cover_by, edit_at, flip_by, framing_at, framing_by, named, other_at, pad_at, quarter_of, ranged_at, ranged_by, rectangle_of, step_at, turn_by}

-- what is found has at most so many words
abbrev Few : {A : Type 0} → ℕ → Option (A × ℕ) → Type 0
Few most found = IfSome found (λ f. f.1 ≤ most)

few_mapped : {A B : Type 0} (most : ℕ) (o : Option A) (f : A → B × ℕ) → ((a : A) → (f a).1 ≤ most) → Few most (option_map f o)
few_mapped most None f few = tt
few_mapped most (Some a) f few = few a

few_bound : {A B : Type 0} (most : ℕ) (o : Option A) (f : A → Option (B × ℕ)) → ((a : A) → Few most (f a)) → Few most (o >>= f)
few_bound most None f few = tt
few_bound most (Some a) f few = few a

few_either : {B : Type 0} (most : ℕ) (b : Bool) (x y : Option (B × ℕ)) → Few most x → Few most y → Few most (cond b x y)
few_either most true x y fx fy = fx
few_either most false x y fx fy = fy

-- ---- changes

cover_few : (w : Window) (margin value : Option ℕ) → (cover_by w margin value).1 ≤ 3
cover_few w margin None = omega arith
cover_few w margin (Some value) = omega arith

covers_few : (w : Window) (margin : Option ℕ) (words : List (List ℕ)) → (cover_at w margin words).1 ≤ 3
covers_few w margin [] = cover_few w margin None
covers_few w margin (last ∷ words) = cover_few w margin (number_of last)

other_few : (word : List ℕ) (w : Window) (words : List (List ℕ)) → Few 3 (other_at word w words)
other_few word w [] = tt
other_few word w (last ∷ words) = few_mapped 3 (change_of word w last) (λ change. (change, 3)) (λ change. omega arith)

flip_few : (axes : Option Axes) (word numbers : List ℕ) (words : List (List ℕ)) → Few 3 (flip_by axes word numbers words)
flip_few (Some axes) word numbers words = omega arith
flip_few None word numbers words = few_bound 3 (window_of numbers) (λ w. other_at word w words) (λ w. other_few word w words)

change_few : (word numbers : List ℕ) (words : List (List ℕ)) → Few 3 (change_at word numbers words)
change_few word numbers words =
    few_either 3 (bytes_eq word (codes "cover")) (option_map (λ r. cover_at r.0 r.1 words) (rectangle_of numbers)) (flip_by (axes_of word numbers) word numbers words)
    (few_mapped 3 (rectangle_of numbers) (λ r. cover_at r.0 r.1 words) (λ r. covers_few r.0 r.1 words))
    (flip_few (axes_of word numbers) word numbers words)

few_steps : {A B : Type 0} (more most : ℕ) (o : Option (A × ℕ)) (f : A → B) → Few most o → Few (most + more) (option_map (λ c. (f c.0, c.1 + more)) o)
few_steps more most None f few = tt
few_steps more most (Some c) f few = omega (arith, few)

few_as : {A B : Type 0} (most : ℕ) (o : Option (A × ℕ)) (f : A → B) → Few most o → Few most (option_map (λ c. (f c.0, c.1)) o)
few_as most None f few = tt
few_as most (Some c) f few = few

few_more : {A : Type 0} (most more : ℕ) (o : Option (A × ℕ)) → most ≤ more → Few most o → Few more o
few_more most more None less few = tt
few_more most more (Some c) less few = omega (arith, less, few)

step_few : (range : Range) (words : List (List ℕ)) → Few 3 (step_at range words)
unfolding step_at
step_few range [] = tt
step_few range (word ∷ []) = tt
step_few range (word ∷ (numbers ∷ words)) = few_as 3 (change_at word numbers words) (λ change. record { range = range; change = change; scope = Exact }) (change_few word numbers words)

ranged_few_by : (range : Option Range) (front : List ℕ) (words : List (List ℕ)) → Few 4 (ranged_by range front words)
ranged_few_by (Some range) front words = few_steps 1 3 (step_at range words) (λ e. e) (step_few range words)
ranged_few_by None front words = few_more 3 4 (step_at (Frames 0 18446744073709551615) (front ∷ words)) (omega arith) (step_few (Frames 0 18446744073709551615) (front ∷ words))

ranged_few : (words : List (List ℕ)) → Few 4 (ranged_at words)
unfolding ranged_at
ranged_few [] = tt
ranged_few (front ∷ words) = ranged_few_by (range_of front) front words

-- ---- sizes

framing_few_by : (word : List ℕ) (w : Window) (words : List (List ℕ)) → Few 4 (framing_by word w words)
framing_few_by word w words =
    few_either 4 (bytes_eq word (codes "crop")) (Some (Crop w, 2)) (cond (bytes_eq word (codes "pad")) (option_map (λ framing. (framing, 3)) (pad_at w words)) None) (omega arith)
    (few_either 4 (bytes_eq word (codes "pad")) (option_map (λ framing. (framing, 3)) (pad_at w words)) None (few_mapped 4 (pad_at w words) (λ framing. (framing, 3)) (λ framing. omega arith)) tt)

turn_few : (quarter : Option Quarter) (word numbers : List ℕ) (words : List (List ℕ)) → Few 4 (turn_by quarter word numbers words)
turn_few (Some quarter) word numbers words = omega arith
turn_few None word numbers words = few_bound 4 (window_of numbers) (λ w. framing_by word w words) (λ w. framing_few_by word w words)

framing_few : (words : List (List ℕ)) → Few 4 (framing_at words)
unfolding framing_at
framing_few [] = tt
framing_few (word ∷ []) = tt
framing_few (word ∷ (numbers ∷ words)) = turn_few (quarter_of word numbers) word numbers words

named_few : (f : Option (Framing × ℕ)) (s : Option (Edit × ℕ)) → Few 4 f → Few 4 s → IfSome (named f s) (λ e. e.count ≤ 4)
named_few (Some f) s few_f few_s = few_f
named_few None None few_f few_s = tt
named_few None (Some s) few_f few_s = few_s

-- ---- lines

no_edit : (e : Option Named) (words : List (List ℕ)) → IfSome e (λ x. x.count ≤ 4) → 4 < length words → (e >>= λ x. if x.count == length words then Some x else None) ≡ None
no_edit None words few many = refl
no_edit (Some e) words few many = elim (eqb_tells e.count (length words)) [ inl t ↦ absurd (omega (arith, t.1, few, many)) | inr t ↦ rw t.0 refl ]

pub too_many : (a b c d e : List ℕ) (words : List (List ℕ)) → edit_of (a ∷ (b ∷ (c ∷ (d ∷ (e ∷ words))))) ≡ None
too_many a b c d e words =
    let all : List (List ℕ) = a ∷ (b ∷ (c ∷ (d ∷ (e ∷ words)))) in
    no_edit (edit_at all) all (named_few (framing_at all) (ranged_at all) (framing_few all) (ranged_few all)) (omega arith)
