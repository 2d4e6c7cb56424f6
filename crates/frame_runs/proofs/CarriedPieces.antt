-- What two that carry pieces of one input have in common: the one carries the pieces of the other and more, or both end at one place.
use Rattle.std.proofs.Common.{◌≡◌, ℕ, ◌+◌, ◌⊎◌, Bool, true, false, List, [], ◌∷◌, ◌++◌, Some, None, length, refl, sym, ap, ◌∙◌, subst, arith, append_assoc, append-nil, length-append, inl, inr}
use Rattle.std.specs.List.{AllByRecursion}
use Rattle.std.proofs.lemmas.List.Elements.{recursion_from_All}
use Rattle.frame_edits.specs.Edits.{Edits}
use Rattle.frame_texts.specs.Format.{format_of}
use Rattle.frame_formats.specs.Recipe.{Recipe, video_recipe}
use Rattle.frame_runs.specs.Alike.{BeginsWith}
use Rattle.frame_runs.specs.Passing.{IsNotEditedNext}
use Rattle.frame_runs.specs.Pictures.{PictureHead}
use Rattle.frame_runs.specs.Program.{Stream, IsStream, begins_picture, are_pictures, front, made_front, heads_of, Carries, IsNoMore, IsNoStream, IsNotEdited}
use Rattle.frame_runs.specs.Program.Stream.{video, pictures}
use Rattle.frame_runs.specs.Stream.{Piece, IsPiece, piece_text, pieces_text, made_text, all_made}
use Rattle.frame_runs.proofs.FrameLines.{one_front}
use Rattle.frame_runs.proofs.Hiding.{Laws, readable, one_stream, behind_feed}
use Rattle.frame_runs.proofs.Pieces.{Readable, pictures_readable, one_piece, some_text, not_cut, begins_piece, no_begin, edited_piece}

-- ---- pieces of one list of bytes

module _ (heads : List ℕ → Recipe → Type 0) (law : Readable heads) where
  -- the second pieces are the first and more, which are in what follows the first
  pub record Longer (ps qs : List Piece) (a b : List ℕ) : Type 0 where
    pub more : List Piece
    pub are : AllByRecursion (IsPiece heads) more
    pub longer : qs ≡ ps ++ more
    pub behind : a ≡ pieces_text more ++ b

  pub either_longer : (ps qs : List Piece) (a b : List ℕ) → AllByRecursion (IsPiece heads) ps → AllByRecursion (IsPiece heads) qs → pieces_text ps ++ a ≡ pieces_text qs ++ b → Longer ps qs a b ⊎ Longer qs ps b a
  either_longer [] qs a b p q e = inl (record { more = qs; are = q; longer = refl; behind = e })
  either_longer (x ∷ ps) [] a b p q e = inr (record { more = x ∷ ps; are = p; longer = refl; behind = sym e })
  either_longer (x ∷ ps) (y ∷ qs) a b p q e =
      let one = one_piece heads law x y (pieces_text ps ++ a) (pieces_text qs ++ b) p.0 q.0 (sym (append_assoc (piece_text x) (pieces_text ps) a) ∙ e ∙ append_assoc (piece_text y) (pieces_text qs) b) in
      elim (either_longer ps qs a b p.1 q.1 one.1) [
        | inl l ↦ inl (record { more = l.more; are = l.are; longer = λ i. sym one.0 i ∷ l.longer i; behind = l.behind })
        | inr l ↦ inr (record { more = l.more; are = l.are; longer = λ i. one.0 i ∷ l.longer i; behind = l.behind })
      ]

made_more : (n : ℕ) (ps more : List Piece) → (x : List ℕ) × (all_made n (ps ++ more) ≡ all_made n ps ++ x)
made_more n [] more = (all_made n more, refl)
made_more n (p ∷ ps) more = let rest = made_more (n + 1) ps more in (rest.0, ap (λ l. made_text n p ++ l) rest.1 ∙ sym (append_assoc (made_text n p) (all_made (n + 1) ps) rest.0))

-- ---- two that carry pieces of one input

module _ (laws : Laws) (edit : Edits) (input : List ℕ) where
  -- the second carries at least the pieces of the first, and the stream is one
  pub record Further (n m : ℕ) (a b s t : List ℕ) (c : Carries edit n input a s) (d : Carries edit m input b t) : Type 0 where
    pub one_stream : c.stream ≡ d.stream
    pub by : Longer (heads_of edit c.stream) (readable laws edit c.stream) c.pieces d.pieces a b

  pub further : (n m : ℕ) (a b s t : List ℕ) (c : Carries edit n input a s) (d : Carries edit m input b t) → Further n m a b s t c d ⊎ Further m n b a t s d c
  further n m a b s t c d =
      let one = one_stream edit c.stream d.stream input (pieces_text c.pieces ++ a) (pieces_text d.pieces ++ b) c.is d.is c.kind d.kind c.read d.read in
      let here : AllByRecursion (IsPiece (heads_of edit c.stream)) d.pieces = subst (λ (u : Stream). AllByRecursion (IsPiece (heads_of edit u)) d.pieces) (sym one.0) d.are in
      elim (either_longer (heads_of edit c.stream) (readable laws edit c.stream) c.pieces d.pieces a b c.are here one.1) [
        | inl l ↦ inl (record { one_stream = one.0; by = l })
        | inr l ↦ inr (record { one_stream = sym one.0; by = subst (λ (u : Stream). Longer (heads_of edit u) (readable laws edit u) d.pieces c.pieces b a) one.0 l })
      ]

  pub further_text : (n m : ℕ) (a b s t : List ℕ) (c : Carries edit n input a s) (d : Carries edit m input b t) → Further n m a b s t c d → BeginsWith t s
  further_text n m a b s t c d f =
      let made = made_more 0 c.pieces f.by.more in
      (made.0, d.made ∙ (λ i. made_front (sym f.one_stream i) ++ (ap (all_made 0) f.by.longer ∙ made.1) i) ∙ sym (append_assoc (made_front c.stream) (all_made 0 c.pieces) made.0) ∙ ap (λ l. l ++ made.0) (sym c.made))

  -- ---- where no piece follows these, or a number counts no more

  all_there : (n m : ℕ) (a b s t : List ℕ) (c : Carries edit n input a s) (d : Carries edit m input b t) (same : c.stream ≡ d.stream) (more : List Piece) → AllByRecursion (IsPiece (heads_of edit c.stream)) more → d.pieces ≡ c.pieces ++ more → a ≡ pieces_text more ++ b
      → (n ≡ 18446744073709551615) ⊎ ((p : Piece) (l : List ℕ) → IsPiece (heads_of edit c.stream) p → a ≡ piece_text p ++ l → ⊥) → (n ≡ m) × (a ≡ b) × (s ≡ t)
  all_there n m a b s t c d same [] are longer behind none =
      let pieces : c.pieces ≡ d.pieces = sym (append-nil c.pieces) ∙ sym longer in
      (sym c.count_is ∙ ap length pieces ∙ d.count_is, behind, c.made ∙ (λ i. made_front (same i) ++ all_made 0 (pieces i)) ∙ sym d.made)
  all_there n m a b s t c d same (p ∷ more) are longer behind none = elim none [
    | inl last ↦ absurd (omega (arith, last, ap length longer, length-append c.pieces (p ∷ more), c.count_is, d.count_is, d.within))
    | inr never ↦ absurd (never p (pieces_text more ++ b) are.0 (behind ∙ append_assoc (piece_text p) (pieces_text more) b))
  ]

  -- the pieces after which no other follows are all
  pub longest : (n m : ℕ) (a b s t : List ℕ) (c : Carries edit n input a s) (d : Carries edit m input b t) → (n ≡ 18446744073709551615) ⊎ ((p : Piece) (l : List ℕ) → IsPiece (heads_of edit c.stream) p → a ≡ piece_text p ++ l → ⊥) → BeginsWith s t
  longest n m a b s t c d none = elim (further n m a b s t c d) [
    | inl f ↦ ([], (all_there n m a b s t c d f.one_stream f.by.more f.by.are f.by.longer f.by.behind none).2 ∙ sym (append-nil t))
    | inr f ↦ further_text m n b a t s d c f
  ]

  -- and two such are the same
  pub record OneEnd (n m : ℕ) (a b s t : List ℕ) (c : Carries edit n input a s) (d : Carries edit m input b t) : Type 0 where
    pub one_stream : c.stream ≡ d.stream
    pub one_count : n ≡ m
    pub one_rest : a ≡ b

  pub one_end : (n m : ℕ) (a b s t : List ℕ) (c : Carries edit n input a s) (d : Carries edit m input b t) → (n ≡ 18446744073709551615) ⊎ ((p : Piece) (l : List ℕ) → IsPiece (heads_of edit c.stream) p → a ≡ piece_text p ++ l → ⊥)
      → (m ≡ 18446744073709551615) ⊎ ((p : Piece) (l : List ℕ) → IsPiece (heads_of edit d.stream) p → b ≡ piece_text p ++ l → ⊥) → OneEnd n m a b s t c d
  one_end n m a b s t c d none other = elim (further n m a b s t c d) [
    | inl f ↦ (let same = all_there n m a b s t c d f.one_stream f.by.more f.by.are f.by.longer f.by.behind none in record { one_stream = f.one_stream; one_count = same.0; one_rest = same.1 })
    | inr f ↦ (let same = all_there m n b a t s d c f.one_stream f.by.more f.by.are f.by.longer f.by.behind other in record { one_stream = sym f.one_stream; one_count = sym same.0; one_rest = sym same.1 })
  ]

  -- ---- after which no piece follows

  pub at_end : (s : Stream) (n : ℕ) (rest : List ℕ) → IsNoMore edit s n rest → (n ≡ 18446744073709551615) ⊎ ((p : Piece) (l : List ℕ) → IsPiece (heads_of edit s) p → rest ≡ piece_text p ++ l → ⊥)
  at_end (video line recipe) n rest never = elim never [
    | inl last ↦ inl last
    | inr none ↦ elim none [
      | inl never ↦ inr (λ p l is e. never.other is.0.parameters (p.cells ++ l) is.0.are (e ∙ append_assoc p.head p.cells l ∙ ap (λ h. h ++ (p.cells ++ l)) is.0.head_is))
      | inr cut ↦ inr (λ p l is e. not_cut (heads_of edit (video line recipe)) (readable laws edit (video line recipe)) p l rest is e cut)
    ]
  ]
  at_end pictures n rest never = elim never.none [
    | inl last ↦ inl last
    | inr none ↦ elim none [
      | inl never ↦ inr (λ p l is e. no_begin rest never.1 (begins_piece edit p l rest is e))
      | inr cut ↦ inr (λ p l is e. not_cut (PictureHead edit) (pictures_readable laws.apart laws.letter edit) p l rest is e cut)
    ]
  ]

  pub nothing_left : (s : Stream) (n : ℕ) → (n ≡ 18446744073709551615) ⊎ ((p : Piece) (l : List ℕ) → IsPiece (heads_of edit s) p → [] ≡ piece_text p ++ l → ⊥)
  nothing_left s n = inr (λ p l is e. some_text (heads_of edit s) (readable laws edit s) p l is (sym e))

  pub not_edited : (s : Stream) → s ≡ pictures → (n : ℕ) (rest : List ℕ) → IsNotEditedNext edit n rest → (n ≡ 18446744073709551615) ⊎ ((p : Piece) (l : List ℕ) → IsPiece (heads_of edit s) p → rest ≡ piece_text p ++ l → ⊥)
  not_edited (video line recipe) e n rest never = absurd (let bad : false ≡ true = ap are_pictures e in cc)
  not_edited pictures e n rest never = inr (λ p l is read. edited_piece laws.apart edit p l rest is read never.1)

  -- ---- the beginning of an input

  pub all_pictures : (s : Stream) → are_pictures s ≡ true → s ≡ pictures
  all_pictures (video line recipe) e = absurd (let bad : false ≡ true = e in cc)
  all_pictures pictures e = refl

  no_format : (line : List ℕ) (recipe : Recipe) → video_recipe edit line ≡ Some recipe → format_of line ≡ None → ⊥
  no_format line recipe is none = let bad : None ≡ Some recipe = sym (rw none refl) ∙ is in cc

  -- what begins no stream carries no piece
  header_carries : (s : Stream) → IsStream edit s → begins_picture input ≡ are_pictures s → (ps : List Piece) → AllByRecursion (IsPiece (heads_of edit s)) ps → (a : List ℕ) → input ≡ front s ++ (pieces_text ps ++ a) → IsNoStream (begins_picture input) input → (s ≡ pictures) × (ps ≡ [])
  header_carries (video line recipe) is kind ps are a read none = absurd (no_format line recipe is.2 (subst (λ (b : Bool). IsNoStream b input) kind none line (pieces_text ps ++ a) is.0 is.1 (read ∙ behind_feed line (pieces_text ps ++ a))))
  header_carries pictures is kind [] are a read none = (refl, refl)
  header_carries pictures is kind (p ∷ ps) are a read none = absurd (no_begin input (subst (λ (b : Bool). IsNoStream b input) kind none) (begins_piece edit p (pieces_text ps ++ a) input are.0 (read ∙ append_assoc (piece_text p) (pieces_text ps) a)))

  pub record Nothing (n : ℕ) (a t : List ℕ) (c : Carries edit n input a t) : Type 0 where
    pub one_stream : c.stream ≡ pictures
    pub count : n ≡ 0
    pub rest : input ≡ a
    pub text : t ≡ []

  pub header_none : (n : ℕ) (a t : List ℕ) (c : Carries edit n input a t) → IsNoStream (begins_picture input) input → Nothing n a t c
  header_none n a t c none =
      let e = header_carries c.stream c.is c.kind c.pieces c.are a c.read none in
      record {
        one_stream = e.0;
        count = sym c.count_is ∙ ap length e.1;
        rest = c.read ∙ (λ i. front (e.0 i) ++ (pieces_text (e.1 i) ++ a));
        text = c.made ∙ (λ i. made_front (e.0 i) ++ all_made 0 (e.1 i));
      }

  unplanned_carries : (s : Stream) → IsStream edit s → are_pictures s ≡ false → (l : List ℕ) → input ≡ front s ++ l → IsNotEdited edit input → ⊥
  unplanned_carries (video line recipe) is kind l read not =
      let b = not.begins in
      let same : b.line ≡ line = (one_front b.line line b.more l (recursion_from_All _ b.line b.one_line) (recursion_from_All _ line is.0) (sym b.read ∙ read ∙ behind_feed line l)).0 in
      let bad : Some recipe ≡ None = sym is.2 ∙ ap (video_recipe edit) (sym same) ∙ not.none in
      cc
  unplanned_carries pictures is kind l read not = let bad : true ≡ false = kind in cc

  pub unplanned : (n : ℕ) (a t : List ℕ) → Carries edit n input a t → begins_picture input ≡ false → IsNotEdited edit input → ⊥
  unplanned n a t c kind not = unplanned_carries c.stream c.is (sym c.kind ∙ kind) (pieces_text c.pieces ++ a) c.read not
