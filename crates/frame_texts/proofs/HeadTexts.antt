-- The head that is written is read as its picture.
use Rattle.std.proofs.Common.{◌≡◌, ℕ, ◌+◌, ◌-◌, ◌*◌, ◌/◌, ◌%◌, ◌<◌, ◌^◌, Bool, true, false, eqb, List, [], ◌∷◌, ◌++◌, Option, Some, None, codes, refl, ap, ◌∙◌, arith}
use Rattle.std.specs.Fmt.{decimal}
use Rattle.std.specs.Option.{option_map}
use Rattle.std.proofs.lemmas.Fmt.{decimal_by_steps}
use Rattle.frame_texts.specs.Digits.{is_digit, with_digit}
use Rattle.frame_texts.specs.Pam.{tuple, fields, lines, tuple_depth, with_field}
use Rattle.frame_texts.specs.PamWords.{key_text}
use Rattle.frame_texts.specs.Picture.{picture, is_white, is_greatest, more, with_number, after_digit, in_head, picture_in, ended, scan_of, pushed, scanned, start, done_as, picture_of}
use Rattle.frame_texts.specs.Heads.{kind_text, plain_head, number_line, type_lines, pam_head, head_by, head_text}
use Rattle.frame_texts.specs.declared.pam.Fields.{Fields}
use Rattle.frame_texts.specs.declared.pam_words.Key.{Key}
use Rattle.frame_texts.specs.declared.pam_words.Key.TheVariants.{Width as KeyWidth, Height as KeyHeight, Depth as KeyDepth, Greatest as KeyGreatest, Tupltype as KeyTupltype, End as KeyEnd}
use Rattle.frame_texts.specs.declared.pam.Place.{Place}
use Rattle.frame_texts.specs.declared.pam.Place.TheVariants.{Line, Number}
use Rattle.frame_texts.specs.declared.pam.Tuples.{Tuples}
use Rattle.frame_texts.specs.declared.picture.Kind.{Kind}
use Rattle.frame_texts.specs.declared.picture.Kind.TheVariants.{Plain, Pam}
use Rattle.frame_texts.specs.declared.picture.Picture.{Picture}
use Rattle.frame_texts.specs.declared.picture.Head.{Head}
use Rattle.frame_texts.specs.declared.picture.Head.TheVariants.{Width, Height, Greatest, Lines}
use Rattle.frame_texts.specs.declared.picture.Scan.{Scan}
use Rattle.frame_texts.specs.declared.picture.Scan.TheVariants.{Done}

pub scanned-append : (s : Scan) (xs ys : List ℕ) → scanned s (xs ++ ys) ≡ scanned (scanned s xs) ys
scanned-append s [] ys = refl
scanned-append s (x ∷ xs) ys = scanned-append (pushed s x) xs ys

then : (s m n : Scan) (xs ys : List ℕ) → scanned s xs ≡ m → scanned m ys ≡ n → scanned s (xs ++ ys) ≡ n
then s m n xs ys first second = scanned-append s xs ys ∙ ap (λ z. scanned z ys) first ∙ second

-- ---- numbers

-- a digit after white space
plain_digit : (d : ℕ) → d < 10 → (is_white (48 + d) ≡ false) × (eqb (48 + d) 35 ≡ false) × (is_digit (48 + d) ≡ true) × (48 + d - 48 ≡ d)
plain_digit d small = (grind arith, grind arith, grind arith, omega arith)

-- states in which a number is read, told by their number: a digit goes after it
abbrev ReadsDigits : (Option ℕ → Head) → Type 0
ReadsDigits head = (number : Option ℕ) (d : ℕ) → d < 10 → pushed (more (head number)) (48 + d) ≡ with_number head (with_digit number d)

behind : (head : Head) (d : ℕ) → d < 10 → in_head head (48 + d) ≡ after_digit head d
behind head d small = let f = plain_digit d small in rw (f.0, f.1, f.2, f.3) refl

in_range : (n d : ℕ) → n * 10 + d < 2 ^ 32 → with_digit (Some n) d ≡ Some (n * 10 + d)
in_range n d small = grind arith

one_digit : (head : Option ℕ → Head) → ReadsDigits head → (n : ℕ) → n < 10 → scanned (more (head None)) ((48 + n) ∷ []) ≡ more (head (Some n))
one_digit head reads n small = reads None n small

digits_more : (head : Option ℕ → Head) → ReadsDigits head → (n : ℕ) (ds : List ℕ) → (n / 10 < 2 ^ 32 → scanned (more (head None)) ds ≡ more (head (Some (n / 10)))) → n < 2 ^ 32
    → scanned (more (head None)) (ds ++ ((48 + n % 10) ∷ [])) ≡ more (head (Some n))
digits_more head reads n ds before small = grind (arith, scanned-append, in_range)

reads_decimal : (head : Option ℕ → Head) → ReadsDigits head → (n : ℕ) → n < 2 ^ 32 → scanned (more (head None)) (decimal n) ≡ more (head (Some n))
reads_decimal head reads n small =
    decimal_by_steps (λ k ds. k < 2 ^ 32 → scanned (more (head None)) ds ≡ more (head (Some k))) (λ k one _. one_digit head reads k one) (λ k ds _ before low. digits_more head reads k ds before low) n (omega arith) small

-- ---- the kinds with numbers alone

reads_width : (colour : Bool) → ReadsDigits (Width colour)
reads_width colour number d small = behind (Width colour number) d small

reads_height : (colour : Bool) (width : ℕ) → ReadsDigits (Height colour width)
reads_height colour width number d small = behind (Height colour width number) d small

reads_greatest : (colour : Bool) (width height : ℕ) → ReadsDigits (Greatest colour width height)
reads_greatest colour width height number d small = behind (Greatest colour width height number) d small

kind_read : (colour : Bool) (rest : List ℕ) → scanned start (kind_text colour ++ 10 ∷ rest) ≡ scanned (more (Width colour None)) rest
kind_read false rest = refl
kind_read true rest = refl

width_ends : (colour : Bool) (width : ℕ) → 0 < width → pushed (more (Width colour (Some width))) 32 ≡ more (Height colour width None)
width_ends colour width some = grind arith

height_ends : (colour : Bool) (width height : ℕ) → 0 < height → pushed (more (Height colour width (Some height))) 10 ≡ more (Greatest colour width height None)
height_ends colour width height some = grind arith

greatest_ends : (colour : Bool) (width height greatest : ℕ) → is_greatest greatest ≡ true → pushed (more (Greatest colour width height (Some greatest))) 10 ≡ Done (picture width height (Plain colour) greatest)
greatest_ends colour width height greatest is = rw is refl

plain_back : (colour : Bool) (width height greatest : ℕ) → 0 < width → width < 2 ^ 32 → 0 < height → height < 2 ^ 32 → is_greatest greatest ≡ true → scanned start (plain_head colour width height greatest) ≡ Done (picture width height (Plain colour) greatest)
plain_back colour width height greatest columns width_bound rows height_bound great =
    let wide = 10 ∷ decimal width in
    let high = 32 ∷ decimal height in
    let deep = 10 ∷ decimal greatest in
    let front = kind_text colour ++ wide in
    let width_read = kind_read colour (decimal width) ∙ reads_decimal (Width colour) (reads_width colour) width width_bound in
    let height_read = ap (λ s. scanned s (decimal height)) (width_ends colour width columns) ∙ reads_decimal (Height colour width) (reads_height colour width) height height_bound in
    let greatest_read = ap (λ s. scanned s (decimal greatest)) (height_ends colour width height rows) ∙ reads_decimal (Greatest colour width height) (reads_greatest colour width height) greatest (grind arith) in
    let first = then start (more (Width colour (Some width))) (more (Height colour width (Some height))) front high width_read height_read in
    let second = then start (more (Height colour width (Some height))) (more (Greatest colour width height (Some greatest))) (front ++ high) deep first greatest_read in
    then start (more (Greatest colour width height (Some greatest))) (Done (picture width height (Plain colour) greatest)) (front ++ high ++ deep) (10 ∷ []) second (greatest_ends colour width height greatest great)

-- ---- the kind with lines

abbrev in_lines : Fields → Place → Scan
in_lines f place = more (Lines (lines f place))

line_number : (f : Fields) (key : Key) (o : Option ℕ) → scan_of (option_map (λ n. lines f (Number key (Some n))) o) ≡ with_number (λ number. Lines (lines f (Number key number))) o
line_number f key None = refl
line_number f key (Some n) = refl

line_digit : (f : Fields) (key : Key) → ReadsDigits (λ number. Lines (lines f (Number key number)))
line_digit f key number d small = let p = plain_digit d small in rw (p.2, p.3) (line_number f key (with_digit number d))

line_word : (f g : Fields) (key : Key) (n : ℕ) (rest : List ℕ) → with_field f key n ≡ Some g → scanned (in_lines f Line) (key_text key ++ 32 ∷ rest) ≡ scanned (in_lines f (Number key None)) rest
line_word f g KeyWidth n rest is = refl
line_word f g KeyHeight n rest is = refl
line_word f g KeyDepth n rest is = refl
line_word f g KeyGreatest n rest is = refl
line_word f g KeyTupltype n rest is = absurd cc
line_word f g KeyEnd n rest is = absurd cc

line_ends : (f g : Fields) (key : Key) (n : ℕ) → with_field f key n ≡ Some g → pushed (in_lines f (Number key (Some n))) 10 ≡ in_lines g Line
line_ends f g key n is = rw is refl

line_read : (f g : Fields) (key : Key) (n : ℕ) → n < 2 ^ 32 → with_field f key n ≡ Some g → scanned (in_lines f Line) (number_line (key_text key) n) ≡ in_lines g Line
line_read f g key n small is =
    let number = in_lines f (Number key (Some n)) in
    let digits = line_word f g key n (decimal n) is ∙ reads_decimal (λ number. Lines (lines f (Number key number))) (line_digit f key) n small in
    then (in_lines f Line) number (in_lines g Line) (key_text key ++ 32 ∷ decimal n) (10 ∷ []) digits (line_ends f g key n is)

type_read : (a b c d : Option ℕ) (colour alpha : Bool) → scanned (in_lines (fields a b c d None) Line) (type_lines (tuple colour alpha)) ≡ ended (picture_in (fields a b c d (Some (tuple colour alpha))))
type_read a b c d false false = refl
type_read a b c d false true = refl
type_read a b c d true false = refl
type_read a b c d true true = refl

small_depth : (colour alpha : Bool) → (tuple_depth (tuple colour alpha) < 2 ^ 32) × (eqb (tuple_depth (tuple colour alpha)) (tuple_depth (tuple colour alpha)) ≡ true)
small_depth false false = (omega arith, refl)
small_depth false true = (omega arith, refl)
small_depth true false = (omega arith, refl)
small_depth true true = (omega arith, refl)

picture_found : (width height : ℕ) (t : Tuples) (greatest : ℕ) → 0 < width → 0 < height → is_greatest greatest ≡ true → picture_in (fields (Some width) (Some height) (Some (tuple_depth t)) (Some greatest) (Some t)) ≡ Some (picture width height (Pam t) greatest)
unfolding picture_in
picture_found width height t greatest columns rows great = let depth = (small_depth t.colour t.alpha).1 in grind (arith, depth)

pam_back : (width height : ℕ) (t : Tuples) (greatest : ℕ) → 0 < width → width < 2 ^ 32 → 0 < height → height < 2 ^ 32 → is_greatest greatest ≡ true → scanned start (pam_head width height t greatest) ≡ Done (picture width height (Pam t) greatest)
pam_back width height t greatest columns width_bound rows height_bound great =
    let depth = tuple_depth t in
    let kind = codes "P7" ++ 10 ∷ [] in
    let wide = number_line (key_text KeyWidth) width in
    let high = number_line (key_text KeyHeight) height in
    let deep = number_line (key_text KeyDepth) depth in
    let most = number_line (key_text KeyGreatest) greatest in
    let f1 = fields (Some width) None None None None in
    let f2 = fields (Some width) (Some height) None None None in
    let f3 = fields (Some width) (Some height) (Some depth) None None in
    let f4 = fields (Some width) (Some height) (Some depth) (Some greatest) None in
    let one = then start (in_lines (fields None None None None None) Line) (in_lines f1 Line) kind wide refl (line_read (fields None None None None None) f1 KeyWidth width width_bound refl) in
    let two = then start (in_lines f1 Line) (in_lines f2 Line) (kind ++ wide) high one (line_read f1 f2 KeyHeight height height_bound refl) in
    let three = then start (in_lines f2 Line) (in_lines f3 Line) (kind ++ wide ++ high) deep two (line_read f2 f3 KeyDepth depth (small_depth t.colour t.alpha).0 refl) in
    let four = then start (in_lines f3 Line) (in_lines f4 Line) (kind ++ wide ++ high ++ deep) most three (line_read f3 f4 KeyGreatest greatest (grind arith) refl) in
    then start (in_lines f4 Line) (Done (picture width height (Pam t) greatest)) (kind ++ wide ++ high ++ deep ++ most) (type_lines t) four
    (type_read (Some width) (Some height) (Some depth) (Some greatest) t.colour t.alpha ∙ ap ended (picture_found width height t greatest columns rows great))

back_by : (kind : Kind) (width height greatest : ℕ) → 0 < width → width < 2 ^ 32 → 0 < height → height < 2 ^ 32 → is_greatest greatest ≡ true → scanned start (head_by kind width height greatest) ≡ Done (picture width height kind greatest)
back_by (Plain colour) width height greatest columns width_bound rows height_bound great = plain_back colour width height greatest columns width_bound rows height_bound great
back_by (Pam t) width height greatest columns width_bound rows height_bound great = pam_back width height t greatest columns width_bound rows height_bound great

pub reads_back : (p : Picture) → 0 < p.width → p.width < 2 ^ 32 → 0 < p.height → p.height < 2 ^ 32 → is_greatest p.greatest ≡ true → picture_of (head_text p) ≡ Some p
reads_back p columns width_bound rows height_bound great = ap done_as (back_by p.kind p.width p.height p.greatest columns width_bound rows height_bound great)
