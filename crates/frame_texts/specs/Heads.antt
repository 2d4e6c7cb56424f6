-- The heads that are written.
use Rattle.std.specs.Prelude.{◌≡◌, ℕ, ◌<◌, ◌^◌, Bool, true, false, if◌then◌else◌, List, [], ◌∷◌, ◌++◌, Some, codes}
use Rattle.std.specs.Fmt.{decimal}
use Rattle.frame_texts.specs.Pam.{tuple_depth}
use Rattle.frame_texts.specs.PamWords.{key_text}
use Rattle.frame_texts.specs.Picture.{is_greatest, picture_of}
use Rattle.frame_texts.specs.declared.pam_words.Key.TheVariants.{Width, Height, Depth, Greatest}
use Rattle.frame_texts.specs.declared.pam.Tuples.{Tuples}
use Rattle.frame_texts.specs.declared.picture.Kind.{Kind}
use Rattle.frame_texts.specs.declared.picture.Kind.TheVariants.{Plain, Pam}
use Rattle.frame_texts.specs.declared.picture.Picture.{Picture}

abbrev pub kind_text : Bool → List ℕ
kind_text false = codes "P5"
kind_text true = codes "P6"

-- the kind, the size and the greatest value, each on a line
abbrev pub plain_head : Bool → ℕ → ℕ → ℕ → List ℕ
plain_head colour width height greatest = kind_text colour ++ 10 ∷ decimal width ++ 32 ∷ decimal height ++ 10 ∷ decimal greatest ++ 10 ∷ []

abbrev pub type_name : Tuples → List ℕ
type_name t = if t.colour then (if t.alpha then codes "RGB_ALPHA" else codes "RGB") else (if t.alpha then codes "GRAYSCALE_ALPHA" else codes "GRAYSCALE")

abbrev pub number_line : List ℕ → ℕ → List ℕ
number_line word n = word ++ 32 ∷ decimal n ++ 10 ∷ []

-- the type of the tuples, and the end
abbrev pub type_lines : Tuples → List ℕ
type_lines t = codes "TUPLTYPE " ++ type_name t ++ 10 ∷ codes "ENDHDR" ++ 10 ∷ []

abbrev pub pam_head : ℕ → ℕ → Tuples → ℕ → List ℕ
pam_head width height t greatest =
    (codes "P7" ++ 10 ∷ [])
    ++ number_line (key_text Width) width
    ++ number_line (key_text Height) height
    ++ number_line (key_text Depth) (tuple_depth t)
    ++ number_line (key_text Greatest) greatest
    ++ type_lines t

abbrev pub head_by : Kind → ℕ → ℕ → ℕ → List ℕ
head_by (Plain colour) width height greatest = plain_head colour width height greatest
head_by (Pam t) width height greatest = pam_head width height t greatest

-- the head that is written
abbrev pub head_text : Picture → List ℕ
head_text p = head_by p.kind p.width p.height p.greatest

-- the head that is written is one of its picture
abbrev pub ReadsBack : Type 0
ReadsBack = (p : Picture) → 0 < p.width → p.width < 2 ^ 32 → 0 < p.height → p.height < 2 ^ 32 → is_greatest p.greatest ≡ true → picture_of (head_text p) ≡ Some p
