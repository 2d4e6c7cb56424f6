-- The pieces of a stream are read in one way.
use Rattle.std.proofs.Common.{◌≡◌, ◌≢◌, ℕ, ◌<◌, List, [], ◌∷◌, ◌++◌, Option, Some, None, length, refl, sym, ap, ◌∙◌, arith, append_assoc, length-append, append-nil, IfSome}
use Rattle.std.specs.Io.KnownBytes.{Consumes, IsAtEnd}
use Rattle.texts.proofs.Options.{some_is}
use Rattle.frame_texts.specs.Picture.{picture_of, ApartHeads, BeginsWithLetter}
use Rattle.frame_edits.specs.Edits.{Edits}
use Rattle.frame_formats.specs.Recipe.{Recipe, picture_recipe}
use Rattle.frame_runs.specs.Stream.{Piece, piece, IsPiece, piece_text}
use Rattle.frame_runs.specs.Video.{FrameHead, frame_line, with_head}
use Rattle.frame_runs.specs.Pictures.{IsHead, PictureHead, BeginsPicture, IsNoPicture, IsPictureNotEdited}
use Rattle.frame_runs.specs.Passing.{IsCut}
use Rattle.frame_texts.specs.declared.picture.Picture.{Picture}
use Rattle.frame_runs.proofs.FrameLines.{one_line}

-- no head begins another, and each has one recipe
pub record Readable (heads : List ℕ → Recipe → Type 0) : Type 0 where
  pub apart : (h k a b : List ℕ) (r s : Recipe) → heads h r → heads k s → h ++ a ≡ k ++ b → (h ≡ k) × (r ≡ s) × (a ≡ b)
  pub some : (h : List ℕ) (r : Recipe) → heads h r → 0 < length h

pub frames_readable : (video : Recipe) → Readable (FrameHead video)
frames_readable video = record {
  apart = λ h k a b r s p q e.
      let one = one_line p.parameters q.parameters a b p.are q.are (ap (λ l. l ++ a) (sym p.head_is) ∙ e ∙ ap (λ l. l ++ b) q.head_is) in
      let same : h ≡ k = p.head_is ∙ ap frame_line one.0 ∙ sym q.head_is in
      (same, p.recipe_is ∙ ap (λ l. with_head l video) same ∙ sym q.recipe_is, one.1);
  some = λ h r p. omega (arith, ap length p.head_is);
}

-- bytes begin with one head at most
pub one_head : ApartHeads → (h k a b : List ℕ) (p q : Picture) → IsHead h p → IsHead k q → h ++ a ≡ k ++ b → (h ≡ k) × (p ≡ q) × (a ≡ b)
one_head one h k a b p q is it e =
    let same = one h k a b p q is.named it.named e in
    (same.0, some_is p q (sym is.named ∙ ap picture_of same.0 ∙ it.named), same.1)

pub pictures_readable : ApartHeads → BeginsWithLetter → (edit : Edits) → Readable (PictureHead edit)
pictures_readable one some edit = record {
  apart = λ h k a b r s p q e.
      let same = one_head one h k a b p.picture q.picture p.is q.is e in
      (same.0, some_is r s (sym p.edited ∙ ap (picture_recipe edit) same.1 ∙ q.edited), same.2);
  some = λ h r p. let letter = some h p.picture p.is.named in omega (arith, ap length letter.1);
}

-- ---- pieces

fronts : (xs ys a b : List ℕ) → length xs ≡ length ys → xs ++ a ≡ ys ++ b → (xs ≡ ys) × (a ≡ b)
fronts [] [] a b long e = (refl, e)
fronts [] (y ∷ ys) a b long e = absurd (omega (arith, long))
fronts (x ∷ xs) [] a b long e = absurd (omega (arith, long))
fronts (x ∷ xs) (y ∷ ys) a b long e =
    let heads : x ≡ y = cc in
    let tails : xs ++ a ≡ ys ++ b = cc in
    let rest = fronts xs ys a b (omega (arith, long)) tails in
    ((λ i. heads i ∷ rest.0 i), rest.1)

module _ (heads : List ℕ → Recipe → Type 0) (law : Readable heads) where
  pub one_piece : (x p : Piece) (a b : List ℕ) → IsPiece heads x → IsPiece heads p → piece_text x ++ a ≡ piece_text p ++ b → (x ≡ p) × (a ≡ b)
  one_piece x p a b is of e =
      let one = law.apart x.head p.head (x.cells ++ a) (p.cells ++ b) x.recipe p.recipe is.0 of.0 (sym (append_assoc x.head x.cells a) ∙ e ∙ append_assoc p.head p.cells b) in
      let cells = fronts x.cells p.cells a b (is.1 ∙ ap (λ (r : Recipe). r.size) one.1 ∙ sym of.1) one.2 in
      ((λ i. piece (one.0 i) (cells.0 i) (one.1 i)), cells.1)

  -- a piece is some bytes
  pub some_text : (p : Piece) (more : List ℕ) → IsPiece heads p → piece_text p ++ more ≢ []
  some_text p more is = λ none. omega (arith, ap length none, law.some p.head p.recipe is.0, length-append (piece_text p) more, length-append p.head p.cells)

  -- the cells after the head of a piece are not cut
  pub not_cut : (p : Piece) (more bytes : List ℕ) → IsPiece heads p → bytes ≡ piece_text p ++ more → IsCut heads bytes → ⊥
  not_cut p more bytes of is cut =
      let one = law.apart p.head cut.head (p.cells ++ more) cut.cells p.recipe cut.recipe of.0 cut.is (sym (append_assoc p.head p.cells more) ∙ sym is ∙ cut.read) in
      omega (arith, ap length one.2, length-append p.cells more, of.1, ap (λ (q : Recipe). q.size) one.1, cut.short)

  -- cut cells have a head before them
  pub cut_some : (bytes : List ℕ) → IsCut heads bytes → bytes ≢ []
  cut_some bytes cut = λ none. omega (arith, ap length none, ap length cut.read, law.some cut.head cut.recipe cut.is, length-append cut.head cut.cells)

  -- fewer cells after a head than it has
  pub cut_piece : (h got : List ℕ) (r : Recipe) (old mid new : Option (List ℕ)) → heads h r → Consumes old mid h → Consumes mid new got → length got < r.size → IsAtEnd new → IfSome old (IsCut heads)
  cut_piece h got r None mid new is read more short end = tt
  cut_piece h got r (Some bytes) None new is read more short end = absurd read
  cut_piece h got r (Some bytes) (Some rest) None is read more short end = absurd more
  cut_piece h got r (Some bytes) (Some rest) (Some left) is read more short end = record {
    head = h;
    cells = got;
    recipe = r;
    is = is;
    short = short;
    read = read ∙ ap (λ l. h ++ l) (more ∙ ap (λ l. got ++ l) end ∙ append-nil got);
  }

-- ---- pictures

-- the head of a piece is one of a picture
pub begins_piece : (edit : Edits) (p : Piece) (more bytes : List ℕ) → IsPiece (PictureHead edit) p → bytes ≡ piece_text p ++ more → BeginsPicture bytes
begins_piece edit p more bytes of is = record { head = p.head; more = p.cells ++ more; picture = of.0.picture; is = of.0.is; read = is ∙ append_assoc p.head p.cells more }

pub begins_cut : (edit : Edits) (bytes : List ℕ) → IsCut (PictureHead edit) bytes → BeginsPicture bytes
begins_cut edit bytes cut = record { head = cut.head; more = cut.cells; picture = cut.is.picture; is = cut.is.is; read = cut.read }

pub no_begin : (bytes : List ℕ) → IsNoPicture bytes → BeginsPicture bytes → ⊥
no_begin bytes none b = none b.picture b.head b.more b.is b.read

-- a picture that the edits suit isn't one that they don't suit
edited_head : ApartHeads → (edit : Edits) (h a bytes : List ℕ) (r : Recipe) → PictureHead edit h r → bytes ≡ h ++ a → IsPictureNotEdited edit bytes → ⊥
edited_head one edit h a bytes r is read not =
    let same = one_head one h not.begins.head a not.begins.more is.picture not.begins.picture is.is not.begins.is (sym read ∙ not.begins.read) in
    let bad : Some r ≡ None = sym is.edited ∙ ap (picture_recipe edit) same.1 ∙ not.none in
    cc

pub edited_piece : ApartHeads → (edit : Edits) (p : Piece) (more bytes : List ℕ) → IsPiece (PictureHead edit) p → bytes ≡ piece_text p ++ more → IsPictureNotEdited edit bytes → ⊥
edited_piece one edit p more bytes of is not = edited_head one edit p.head (p.cells ++ more) bytes p.recipe of.0 (is ∙ append_assoc p.head p.cells more) not

pub edited_cut : ApartHeads → (edit : Edits) (bytes : List ℕ) → IsCut (PictureHead edit) bytes → IsPictureNotEdited edit bytes → ⊥
edited_cut one edit bytes cut not = edited_head one edit cut.head cut.cells bytes cut.recipe cut.is cut.read not
