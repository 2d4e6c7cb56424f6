-- Runs over one input, or over two that are alike, have seen frames of the same shapes.
use Rattle.std.proofs.Common.{◌≡◌, ◌⊎◌, ◌<◌, ◌+◌, ℕ, zero, suc, nat_lt, if◌then◌else◌, true, false, List, [], ◌∷◌, ◌++◌, Option, Some, None, IfSome, Result, Ok, Err, length, refl, sym, ap, ◌∙◌, subst, arith, append_assoc, append-nil, length-append, inl, inr}
use Rattle.std.specs.List.{AllByRecursion, slice_get}
use Rattle.std.specs.Io.KnownBytes.{Consumes}
use Rattle.std.proofs.lemmas.List.Elements.{recursion_from_All}
use Rattle.texts.proofs.Options.{some_is}
use Rattle.image_planes.specs.Unseen.{PlanesAlike}
use Rattle.frame_edits.specs.Edits.{Edits}
use Rattle.frame_formats.specs.Recipe.{picture_recipe}
use Rattle.frame_texts.specs.Format.{format_of}
use Rattle.frame_texts.specs.Rates.{rate_of}
use Rattle.frame_texts.specs.declared.picture.Picture.{Picture}
use Rattle.frame_requests.specs.declared.fault.RunFault.{RunFault}
use Rattle.frame_requests.specs.declared.fault.RunFault.TheVariants.{Header, Outside, Frame}
use Rattle.frame_requests.specs.Seen.{Sees}
use Rattle.frame_requests.specs.declared.seen.Seen.{Seen}
use Rattle.frame_requests.specs.declared.seen.Shape.{Shape}
use Rattle.frame_requests.specs.declared.seen.Shape.TheVariants as shape
use Rattle.frame_requests.specs.Seen.{SeeTheSame}
use Rattle.frame_runs.specs.Alike.{Alike, CutAlike, OneSeen, PiecesAlike, is_broken_off}
use Rattle.frame_runs.specs.Pictures.{BeginsPicture, IsHead, IsNoPicture, PictureHead}
use Rattle.frame_runs.specs.Program.{Stream, IsStream, are_pictures, begins_picture, front, heads_of}
use Rattle.frame_runs.specs.Program.Stream.{video, pictures}
use Rattle.frame_runs.specs.Seen.{HasShape, PicturesSee, ReadsHead, ReadsPictures, RunSees, SeesHead, SeesLast, SeesOneMore, SeesPictures, SeesVideo, VideoSees}
use Rattle.frame_runs.specs.Stream.{Piece, IsPiece, piece_text, pieces_text}
use Rattle.frame_runs.proofs.CarriedPieces.{Longer, either_longer}
use Rattle.frame_runs.proofs.FrameLines.{one_front}
use Rattle.frame_runs.proofs.Hiding.{Laws, behind_feed}
use Rattle.frame_runs.proofs.OneShapes.{SameShapes, last_numbers, same_shapes, sees_too}
use Rattle.frame_runs.proofs.Pieces.{Readable, begins_piece, edited_piece, no_begin, not_cut, one_head, one_piece, pictures_readable}

-- ---- whether an input is a video or pictures

feed_kind : (line a : List ℕ) → begins_picture ((line ++ 10 ∷ []) ++ a) ≡ begins_picture (line ++ 10 ∷ [])
feed_kind [] a = refl
feed_kind (x ∷ line) a = refl

letter_kind : (input more : List ℕ) → input ≡ 80 ∷ more → begins_picture input ≡ true
letter_kind input more is = ap begins_picture is

module _ (laws : Laws) (edit : Edits) (input : List ℕ) where
  law : Readable (PictureHead edit)
  law = pictures_readable laws.apart laws.letter edit

  begun_kind : BeginsPicture input → begins_picture input ≡ true
  begun_kind b = let letter = laws.letter b.head b.picture b.is.named in letter_kind input (letter.0 ++ b.more) (b.read ∙ ap (λ l. l ++ b.more) letter.1)

  video_kind : (s : Seen) → SeesVideo edit (Some input) s → begins_picture input ≡ false
  video_kind s v = behind v.left v.read
    where
      behind : (left : Option (List ℕ)) → Consumes (Some input) left (v.line ++ 10 ∷ []) → begins_picture input ≡ false
      behind None read = absurd read
      behind (Some a) read = ap begins_picture read ∙ feed_kind v.line a ∙ v.kind

  reads_kind : (ps : List Piece) → AllByRecursion (IsPiece (PictureHead edit)) ps → 0 < length ps → (left : Option (List ℕ)) → Consumes (Some input) left (pieces_text ps) → begins_picture input ≡ true
  reads_kind [] are some left read = absurd (omega (arith, some))
  reads_kind (p ∷ ps) are some None read = absurd read
  reads_kind (p ∷ ps) are some (Some a) read = begun_kind (begins_piece edit p (pieces_text ps ++ a) input are.0 (read ∙ append_assoc (piece_text p) (pieces_text ps) a))

  many_kind : (n : ℕ) (left : Option (List ℕ)) (shapes : List (ℕ × Shape)) → 0 < n → ReadsPictures edit n (Some input) left shapes → begins_picture input ≡ true
  many_kind n left shapes some r = reads_kind r.pieces r.are (omega (arith, r.count_is, some)) left r.read

  head_kind : (n : ℕ) (picture : Picture) (s : Seen) → SeesHead edit n picture (Some input) s → begins_picture input ≡ true
  head_kind n picture s h = behind h.reads.pieces h.reads.are h.left h.reads.read h.next
    where
      behind : (ps : List Piece) → AllByRecursion (IsPiece (PictureHead edit)) ps → (left : Option (List ℕ)) → Consumes (Some input) left (pieces_text ps) → ReadsHead picture left → begins_picture input ≡ true
      behind ps are None read next = absurd read
      behind (p ∷ ps) are (Some a) read next = reads_kind (p ∷ ps) are (omega arith) (Some a) read
      behind [] are (Some a) read next = first next.left next.read
        where
          first : (left : Option (List ℕ)) → Consumes (Some a) left next.head → begins_picture input ≡ true
          first None more = absurd more
          first (Some b) more = begun_kind (record { head = next.head; more = b; picture = picture; is = next.is; read = read ∙ more })

  kinds : {A : Type 0} → begins_picture input ≡ false → begins_picture input ≡ true → A
  kinds a b = absurd (let bad : false ≡ true = sym a ∙ b in cc)

  -- ---- what was read of one input

  -- as many pieces of one text are the same
  same_many : (ps qs : List Piece) (a b : List ℕ) → length ps ≡ length qs → Longer (PictureHead edit) law ps qs a b → (ps ≡ qs) × (a ≡ b)
  same_many ps qs a b count l = by l.more l.longer l.behind
    where
      by : (more : List Piece) → qs ≡ ps ++ more → a ≡ pieces_text more ++ b → (ps ≡ qs) × (a ≡ b)
      by [] longer behind = (sym (append-nil ps) ∙ sym longer, behind)
      by (p ∷ more) longer behind = absurd (omega (arith, count, ap length longer, length-append ps (p ∷ more)))

  -- so many pictures are read in one way
  record OneReading (left other : Option (List ℕ)) (shapes others : List (ℕ × Shape)) : Type 0 where
    same : SameShapes others shapes
    one_left : left ≡ other

  one_reading : (n : ℕ) (left other : Option (List ℕ)) (shapes others : List (ℕ × Shape)) → ReadsPictures edit n (Some input) left shapes → ReadsPictures edit n (Some input) other others → OneReading left other shapes others
  one_reading n None other shapes others r q = absurd r.read
  one_reading n (Some a) None shapes others r q = absurd q.read
  one_reading n (Some a) (Some b) shapes others r q =
      let count : length r.pieces ≡ length q.pieces = r.count_is ∙ sym q.count_is in
      let one : (r.pieces ≡ q.pieces) × (a ≡ b) = elim (either_longer (PictureHead edit) law r.pieces q.pieces a b r.are q.are (sym r.read ∙ q.read)) [
        | inl l ↦ same_many r.pieces q.pieces a b count l
        | inr l ↦ (let back = same_many q.pieces r.pieces b a (sym count) l in (sym back.0, sym back.1))
      ] in
      let have : (k : ℕ) (p : Piece) → slice_get q.pieces k ≡ Some p → HasShape shapes k p = subst (λ (l : List Piece). (k : ℕ) (p : Piece) → slice_get l k ≡ Some p → HasShape shapes k p) one.0 r.have in
      record {
        same = same_shapes others shapes q.pieces q.have have (q.next ∙ sym q.count_is) (r.next ∙ sym q.count_is);
        one_left = ap Some one.1;
      }

  next_numbers : (n : ℕ) (left other : Option (List ℕ)) (shapes others : List (ℕ × Shape)) → ReadsPictures edit n (Some input) left shapes → ReadsPictures edit n (Some input) other others → SameShapes others shapes → (s : Seen) → Sees edit.steps others s → Sees edit.steps shapes s
  next_numbers n left other shapes others r q same s sees = sees_too others shapes same (last_numbers others shapes (q.next ∙ sym r.next)) edit.steps s sees

  module _ (s t : Seen) where
    same_pictures : (n : ℕ) (left other : Option (List ℕ)) → SeesPictures edit n (Some input) left s → SeesPictures edit n (Some input) other t → SeeTheSame edit.steps s t
    same_pictures n left other v w =
        let one = one_reading n left other v.shapes w.shapes v.reads w.reads in
        record { shapes = v.shapes; mine = v.sees; theirs = next_numbers n left other v.shapes w.shapes v.reads w.reads one.same t w.sees }

    -- one head is next
    one_next : (p q : Picture) (bytes : List ℕ) → ReadsHead p (Some bytes) → ReadsHead q (Some bytes) → p ≡ q
    one_next p q bytes v w = by v.left w.left v.read w.read
      where
        by : (l m : Option (List ℕ)) → Consumes (Some bytes) l v.head → Consumes (Some bytes) m w.head → p ≡ q
        by None m read also = absurd read
        by (Some a) None read also = absurd also
        by (Some a) (Some b) read also = (one_head laws.apart v.head w.head a b p q v.is w.is (sym read ∙ also)).1

    left_next : (p q : Picture) (text : List ℕ) (left other : Option (List ℕ)) → Consumes (Some input) left text → left ≡ other → ReadsHead p left → ReadsHead q other → p ≡ q
    left_next p q text None other read same v w = absurd read
    left_next p q text (Some a) other read same v w = one_next p q a v (subst (ReadsHead q) (sym same) w)

    same_heads : (n : ℕ) (p q : Picture) → SeesHead edit n p (Some input) s → SeesHead edit n q (Some input) t → SeeTheSame edit.steps s t
    same_heads n p q v w =
        let one = one_reading n v.left w.left v.shapes w.shapes v.reads w.reads in
        let picture : q ≡ p = sym (left_next p q (pieces_text v.reads.pieces) v.left w.left v.reads.read one.one_left v.next w.next) in
        let sees : Sees edit.steps ((n, shape.Picture p) ∷ w.shapes) t = subst (λ (x : Picture). Sees edit.steps ((n, shape.Picture x) ∷ w.shapes) t) picture w.sees in
        record {
          shapes = (n, shape.Picture p) ∷ v.shapes;
          mine = v.sees;
          theirs = sees_too ((n, shape.Picture p) ∷ w.shapes) ((n, shape.Picture p) ∷ v.shapes) (λ k. ap (λ (o : Option Shape). if nat_lt k n then o else Some (shape.Picture p)) (one.same k)) refl edit.steps t sees;
        }

    -- a head is next, or none
    no_head : (p : Picture) (text : List ℕ) (left other : Option (List ℕ)) → Consumes (Some input) left text → left ≡ other → IfSome left IsNoPicture → ReadsHead p other → ⊥
    no_head p text None other read same none next = absurd read
    no_head p text (Some a) other read same none next =
        let here : ReadsHead p (Some a) = subst (ReadsHead p) (sym same) next in
        by here here.left here.read
      where
        by : (h : ReadsHead p (Some a)) (l : Option (List ℕ)) → Consumes (Some a) l h.head → ⊥
        by h None more = absurd more
        by h (Some b) more = none p h.head b h.is more

    not_both : (n : ℕ) → SeesLast edit n (Some input) s → SeesOneMore edit n (Some input) t → ⊥
    not_both n v w = elim v.none [
      | inl last ↦ omega (arith, last, w.1.within)
      | inr none ↦ (let one = one_reading n v.left w.1.left v.see.shapes w.1.shapes v.see.reads w.1.reads in no_head w.0 (pieces_text v.see.reads.pieces) v.left w.1.left v.see.reads.read one.one_left none w.1.next)
    ]

    same_line : SeesVideo edit (Some input) s → SeesVideo edit (Some input) t → SeeTheSame edit.steps s t
    same_line v w = by v.left w.left v.read w.read
      where
        by : (l m : Option (List ℕ)) → Consumes (Some input) l (v.line ++ 10 ∷ []) → Consumes (Some input) m (w.line ++ 10 ∷ []) → SeeTheSame edit.steps s t
        by None m read also = absurd read
        by (Some a) None read also = absurd also
        by (Some a) (Some b) read also =
            let line : w.line ≡ v.line = (one_front w.line v.line b a (recursion_from_All _ w.line w.one_line) (recursion_from_All _ v.line v.one_line) (sym (behind_feed w.line b) ∙ sym also ∙ read ∙ behind_feed v.line a)).0 in
            let format : w.format ≡ v.format = some_is w.format v.format (sym w.named ∙ ap format_of line ∙ v.named) in
            record {
              shapes = (0, shape.Video v.format (rate_of v.line)) ∷ [];
              mine = v.sees;
              theirs = subst (λ (l : List (ℕ × Shape)). Sees edit.steps l t) (λ i. (0, shape.Video (format i) (rate_of (line i))) ∷ []) w.sees;
            }

    nothing_seen : Sees edit.steps [] s → Sees edit.steps [] t → SeeTheSame edit.steps s t
    nothing_seen v w = record { shapes = []; mine = v; theirs = w }

  -- ---- pictures that the edits don't suit

  -- where such a picture is next, no other is read
  none_longer : (picture : Picture) → picture_recipe edit picture ≡ None → (left : Option (List ℕ)) (a : List ℕ) → left ≡ Some a → ReadsHead picture left → (ps qs : List Piece) (b : List ℕ) → Longer (PictureHead edit) law ps qs a b → length ps ≡ length qs
  none_longer picture none left a is next ps qs b l = by l.more l.are l.longer l.behind
    where
      not : ReadsHead picture (Some a) → (p : Piece) (more : List ℕ) → IsPiece (PictureHead edit) p → a ≡ piece_text p ++ more → ⊥
      not h p more of read = at h.left h.read
        where
          at : (l : Option (List ℕ)) → Consumes (Some a) l h.head → ⊥
          at None after = absurd after
          at (Some c) after = edited_piece laws.apart edit p more a of read (record { begins = record { head = h.head; more = c; picture = picture; is = h.is; read = after }; none = none })

      by : (more : List Piece) → AllByRecursion (IsPiece (PictureHead edit)) more → qs ≡ ps ++ more → a ≡ pieces_text more ++ b → length ps ≡ length qs
      by [] are longer behind = omega (arith, ap length longer, length-append ps [])
      by (p ∷ more) are longer behind = absurd (not (subst (ReadsHead picture) is next) p (pieces_text more ++ b) are.0 (behind ∙ append_assoc (piece_text p) (pieces_text more) b))

  one_count : (n m : ℕ) (p q : Picture) (s t : Seen) → SeesHead edit n p (Some input) s → SeesHead edit m q (Some input) t → picture_recipe edit p ≡ None → picture_recipe edit q ≡ None → n ≡ m
  one_count n m p q s t v w none also = by v.left w.left refl refl v.reads.read w.reads.read
    where
      by : (l k : Option (List ℕ)) → v.left ≡ l → w.left ≡ k → Consumes (Some input) l (pieces_text v.reads.pieces) → Consumes (Some input) k (pieces_text w.reads.pieces) → n ≡ m
      by None k left other read and_read = absurd read
      by (Some a) None left other read and_read = absurd and_read
      by (Some a) (Some b) left other read and_read =
          let ps = v.reads.pieces in
          let qs = w.reads.pieces in
          let counts : length ps ≡ length qs = elim (either_longer (PictureHead edit) law ps qs a b v.reads.are w.reads.are (sym read ∙ and_read)) [
            | inl l ↦ none_longer p none v.left a left v.next ps qs b l
            | inr l ↦ sym (none_longer q also w.left b other w.next qs ps a l)
          ] in
          sym v.reads.count_is ∙ counts ∙ w.reads.count_is

  -- ---- what a run has seen of it

  videos : (r : Result ℕ RunFault) → is_broken_off r ≡ false → (s t : Seen) → VideoSees r edit (Some input) s → VideoSees r edit (Some input) t → SeeTheSame edit.steps s t
  videos (Ok n) is s t v w = same_line s t v w
  videos (Err Header) is s t v w = nothing_seen s t v w
  videos (Err Outside) is s t v w = same_line s t v w
  videos (Err (Frame n)) is s t v w = same_line s t v w
  videos _ is s t v w = absurd (let bad : true ≡ false = is in cc)

  many : (r : Result ℕ RunFault) → is_broken_off r ≡ false → (s t : Seen) → PicturesSee r edit (Some input) s → PicturesSee r edit (Some input) t → SeeTheSame edit.steps s t
  many (Ok n) is s t v w = same_pictures s t n v.0 w.0 v.1 w.1
  many (Err Header) is s t v w = nothing_seen s t v w
  many (Err Outside) is s t v w =
      let count = one_count v.0 w.0 v.1.0 w.1.0 s t v.1.1 w.1.1 v.1.2 w.1.2 in
      same_heads s t v.0 v.1.0 w.1.0 v.1.1 (subst (λ k. SeesHead edit k w.1.0 (Some input) t) (sym count) w.1.1)
  many (Err (Frame n)) is s t v w = elim v [
    | inl v ↦ elim w [ inl w ↦ same_pictures s t n v.left w.left v.see w.see | inr w ↦ absurd (not_both s t n v w) ]
    | inr v ↦ elim w [ inl w ↦ absurd (not_both t s n w v) | inr w ↦ same_heads s t n v.0 w.0 v.1 w.1 ]
  ]
  many _ is s t v w = absurd (let bad : true ≡ false = is in cc)

  pictures_kind : (n : ℕ) (s : Seen) → SeesLast edit n (Some input) s ⊎ SeesOneMore edit n (Some input) s → begins_picture input ≡ true
  pictures_kind n s v = elim v [ inl v ↦ many_kind n v.left v.see.shapes v.some v.see.reads | inr v ↦ head_kind n v.0 s v.1 ]

  -- no input is both
  mixed : (r : Result ℕ RunFault) → is_broken_off r ≡ false → (s t : Seen) → VideoSees r edit (Some input) s → PicturesSee r edit (Some input) t → SeeTheSame edit.steps s t
  mixed (Ok n) is s t v w = kinds (video_kind s v) (many_kind n w.0 w.1.shapes w.2 w.1.reads)
  mixed (Err Header) is s t v w = nothing_seen s t v w
  mixed (Err Outside) is s t v w = kinds (video_kind s v) (head_kind w.0 w.1.0 t w.1.1)
  mixed (Err (Frame n)) is s t v w = kinds (video_kind s v) (pictures_kind n t w)
  mixed _ is s t v w = absurd (let bad : true ≡ false = is in cc)

  one_list : (r : Result ℕ RunFault) → is_broken_off r ≡ false → (s t : Seen) → RunSees r edit (Some input) s → RunSees r edit (Some input) t → SeeTheSame edit.steps s t
  one_list r is s t v w = elim v [
    | inl v ↦ elim w [ inl w ↦ videos r is s t v w | inr w ↦ mixed r is s t v w ]
    | inr v ↦ elim w [ inl w ↦ (let m = mixed r is t s w v in record { shapes = m.shapes; mine = m.theirs; theirs = m.mine }) | inr w ↦ many r is s t v w ]
  ]

-- ---- what was seen of the other input

-- as many pictures of another input, with the same heads, and what is after them
record Moved (edit : Edits) (ends : List ℕ → Type 0) (mine : List Piece) (behind input : List ℕ) : Type 0 where
  pieces : List Piece
  rest : List ℕ
  are : AllByRecursion (IsPiece (PictureHead edit)) pieces
  count : length pieces ≡ length mine
  heads : (n : ℕ) (q : Piece) → slice_get pieces n ≡ Some q → (p : Piece) × (slice_get mine n ≡ Some p) × (p.head ≡ q.head)
  read : input ≡ pieces_text pieces ++ rest
  end : ends behind → ends rest

one_more : (x y : Piece) (ps qs : List Piece) → x.head ≡ y.head → ((n : ℕ) (q : Piece) → slice_get qs n ≡ Some q → (p : Piece) × (slice_get ps n ≡ Some p) × (p.head ≡ q.head)) → (n : ℕ) (q : Piece) → slice_get (y ∷ qs) n ≡ Some q → (p : Piece) × (slice_get (x ∷ ps) n ≡ Some p) × (p.head ≡ q.head)
one_more x y ps qs same heads zero q is = (x, refl, same ∙ ap (λ (p : Piece). p.head) (some_is y q is))
one_more x y ps qs same heads (suc n) q is = heads n q is

module _ (laws : Laws) (edit : Edits) (ends : List ℕ → Type 0) (moves : (p q : Piece) (a b : List ℕ) → IsPiece (PictureHead edit) p → IsPiece (PictureHead edit) q → p.head ≡ q.head → ends (piece_text p ++ a) → ends (piece_text q ++ b)) (rest other : List ℕ) (last : (rest ≡ other) ⊎ CutAlike (PictureHead edit) rest other) (shifts : ends rest → ends other) where
  its_law : Readable (PictureHead edit)
  its_law = pictures_readable laws.apart laws.letter edit

  moved : (n : ℕ) (mine : List Piece) (behind : List ℕ) (ps qs : List Piece) → AllByRecursion (IsPiece (PictureHead edit)) mine → PiecesAlike PlanesAlike (PictureHead edit) n ps qs → pieces_text mine ++ behind ≡ pieces_text ps ++ rest → Moved edit ends mine behind (pieces_text qs ++ other)
  moved n [] behind [] [] are alike e = record {
    pieces = [];
    rest = other;
    are = tt;
    count = refl;
    heads = λ k q is. cc;
    read = refl;
    end = λ end. shifts (subst ends e end);
  }
  moved n [] behind (p ∷ ps) (q ∷ qs) are alike e = record {
    pieces = [];
    rest = pieces_text (q ∷ qs) ++ other;
    are = tt;
    count = refl;
    heads = λ k x is. cc;
    read = refl;
    end = λ end. subst ends (sym (append_assoc (piece_text q) (pieces_text qs) other)) (moves p q (pieces_text ps ++ rest) (pieces_text qs ++ other) alike.0.mine alike.0.theirs alike.0.same_head (subst ends (e ∙ append_assoc (piece_text p) (pieces_text ps) rest) end));
  }
  moved n (x ∷ mine) behind [] [] are alike e = elim last [
    | inl same ↦ record {
      pieces = x ∷ mine;
      rest = behind;
      are = are;
      count = refl;
      heads = λ k q is. (q, is, refl);
      read = sym same ∙ sym e;
      end = λ end. end;
    }
    | inr cut ↦ absurd (not_cut (PictureHead edit) its_law x (pieces_text mine ++ behind) rest are.0 (sym e ∙ append_assoc (piece_text x) (pieces_text mine) behind) (record { head = cut.head; cells = cut.cells; recipe = cut.recipe; is = cut.is; short = cut.short; read = cut.mine_is }))
  ]
  moved n (x ∷ mine) behind (p ∷ ps) (q ∷ qs) are alike e =
      let one = one_piece (PictureHead edit) its_law x p (pieces_text mine ++ behind) (pieces_text ps ++ rest) are.0 alike.0.mine
      (sym (append_assoc (piece_text x) (pieces_text mine) behind) ∙ e ∙ append_assoc (piece_text p) (pieces_text ps) rest) in
      let more = moved (n + 1) mine behind ps qs are.1 alike.1 one.1 in
      record {
        pieces = q ∷ more.pieces;
        rest = more.rest;
        are = (alike.0.theirs, more.are);
        count = omega (arith, more.count);
        heads = one_more x q mine more.pieces (ap (λ (l : Piece). l.head) one.0 ∙ alike.0.same_head) more.heads;
        read = append_assoc (piece_text q) (pieces_text qs) other ∙ ap (λ l. piece_text q ++ l) more.read ∙ sym (append_assoc (piece_text q) (pieces_text more.pieces) more.rest);
        end = more.end;
      }
  moved n _ behind _ _ are alike e = absurd alike

module _ (laws : Laws) (edit : Edits) (mine theirs : List ℕ) (a : Alike edit mine theirs) where
  -- the stream by its kind
  are_all : (s : Stream) → are_pictures s ≡ true → s ≡ pictures
  are_all (video line recipe) e = absurd (let bad : false ≡ true = e in cc)
  are_all pictures e = refl

  -- as many pictures were read of the other input, with the same shapes
  record Read (ends : List ℕ → Type 0) (n : ℕ) (rest : List ℕ) (shapes : List (ℕ × Shape)) : Type 0 where
    left : List ℕ
    reads : ReadsPictures edit n (Some theirs) (Some left) shapes
    end : ends rest → ends left

  read_too : (ends : List ℕ → Type 0) → ((p q : Piece) (a b : List ℕ) → IsPiece (PictureHead edit) p → IsPiece (PictureHead edit) q → p.head ≡ q.head → ends (piece_text p ++ a) → ends (piece_text q ++ b))
      → (CutAlike (PictureHead edit) a.rest a.other → ends a.rest → ends a.other) → begins_picture mine ≡ true → (n : ℕ) (rest : List ℕ) (shapes : List (ℕ × Shape)) → ReadsPictures edit n (Some mine) (Some rest) shapes → Read ends n rest shapes
  read_too ends moves cuts kind n rest shapes r =
      let stream : a.stream ≡ pictures = are_all a.stream (sym a.mine_kind ∙ kind) in
      let last : (a.rest ≡ a.other) ⊎ CutAlike (PictureHead edit) a.rest a.other = subst (λ (s : Stream). (a.rest ≡ a.other) ⊎ CutAlike (heads_of edit s) a.rest a.other) stream a.ends in
      let shifts : ends a.rest → ends a.other = λ end. elim last [ inl same ↦ subst ends same end | inr cut ↦ cuts cut end ] in
      let alike : PiecesAlike PlanesAlike (PictureHead edit) 0 a.pieces a.others = subst (λ (s : Stream). PiecesAlike PlanesAlike (heads_of edit s) 0 a.pieces a.others) stream a.alike in
      let ours : mine ≡ pieces_text a.pieces ++ a.rest = a.mine_is ∙ ap (λ (s : Stream). front s ++ (pieces_text a.pieces ++ a.rest)) stream in
      let its : theirs ≡ pieces_text a.others ++ a.other = a.theirs_is ∙ ap (λ (s : Stream). front s ++ (pieces_text a.others ++ a.other)) stream in
      as_read n rest shapes r its (moved laws edit ends moves a.rest a.other last shifts 0 r.pieces rest a.pieces a.others r.are alike (sym r.read ∙ ours))
    where
      as_read : (n : ℕ) (rest : List ℕ) (shapes : List (ℕ × Shape)) (r : ReadsPictures edit n (Some mine) (Some rest) shapes) → theirs ≡ pieces_text a.others ++ a.other → Moved edit ends r.pieces rest (pieces_text a.others ++ a.other) → Read ends n rest shapes
      as_read n rest shapes r its m = record {
        left = m.rest;
        reads = record {
          pieces = m.pieces;
          are = m.are;
          count_is = m.count ∙ r.count_is;
          read = its ∙ m.read;
          have = λ k q is.
              let p = m.heads k q is in
              let h = r.have k p.0 p.1 in
              record { picture = h.picture; is = subst (λ (l : List ℕ). IsHead l h.picture) p.2 h.is; there = h.there };
          next = r.next;
        };
        end = m.end;
      }

  line_too : (s : Seen) → SeesVideo edit (Some mine) s → SeesVideo edit (Some theirs) s
  line_too s v = by a.stream refl v.left v.read
    where
      by : (stream : Stream) → a.stream ≡ stream → (left : Option (List ℕ)) → Consumes (Some mine) left (v.line ++ 10 ∷ []) → SeesVideo edit (Some theirs) s
      by stream is None read = absurd read
      by pictures is (Some l) read = absurd (let bad : false ≡ true = sym (ap begins_picture read ∙ feed_kind v.line l ∙ v.kind) ∙ a.mine_kind ∙ ap are_pictures is in cc)
      by (video line recipe) is (Some l) read =
          let is_stream : IsStream edit (video line recipe) = subst (IsStream edit) is a.is in
          let ours : mine ≡ line ++ 10 ∷ (pieces_text a.pieces ++ a.rest) = a.mine_is ∙ ap (λ (t : Stream). front t ++ (pieces_text a.pieces ++ a.rest)) is ∙ behind_feed line (pieces_text a.pieces ++ a.rest) in
          let same : line ≡ v.line = (one_front line v.line (pieces_text a.pieces ++ a.rest) l (recursion_from_All _ line is_stream.0) (recursion_from_All _ v.line v.one_line) (sym ours ∙ read ∙ behind_feed v.line l)).0 in
          record {
            line = v.line;
            format = v.format;
            one_line = v.one_line;
            kind = v.kind;
            named = v.named;
            left = Some (pieces_text a.others ++ a.other);
            read = a.theirs_is ∙ ap (λ (t : Stream). front t ++ (pieces_text a.others ++ a.other)) is ∙ ap (λ (h : List ℕ). (h ++ 10 ∷ []) ++ (pieces_text a.others ++ a.other)) same;
            seen = v.seen;
            sees = v.sees;
          }

  pictures_too : (n : ℕ) (s : Seen) (left : Option (List ℕ)) → 0 < n → SeesPictures edit n (Some mine) left s → (l : Option (List ℕ)) × SeesPictures edit n (Some theirs) l s
  pictures_too n s None some v = absurd v.reads.read
  pictures_too n s (Some l) some v =
      let r = read_too (λ bytes. Unit {0}) (λ p q l m is it same end. tt) (λ cut end. tt) (many_kind laws edit mine n (Some l) v.shapes some v.reads) n l v.shapes v.reads in
      (Some r.left, record { shapes = v.shapes; reads = r.reads; sees = v.sees; last = v.last })

  last_too : (n : ℕ) (s : Seen) → SeesLast edit n (Some mine) s → SeesLast edit n (Some theirs) s
  last_too n s v = by v.left v.see v.none
    where
      by : (left : Option (List ℕ)) → SeesPictures edit n (Some mine) left s → (n ≡ 18446744073709551615) ⊎ IfSome left IsNoPicture → SeesLast edit n (Some theirs) s
      by None see none = absurd see.reads.read
      by (Some l) see none =
          let r = read_too (λ bytes. (n ≡ 18446744073709551615) ⊎ IsNoPicture bytes)
          (λ p q l m is it same end. elim end [ inl last ↦ inl last | inr none ↦ absurd (no_begin (piece_text p ++ l) none (begins_piece edit p l (piece_text p ++ l) is refl)) ])
          (λ cut end. elim end [ inl last ↦ inl last | inr none ↦ absurd (no_begin a.rest none (record { head = cut.head; more = cut.cells; picture = cut.is.picture; is = cut.is.is; read = cut.mine_is })) ])
          (many_kind laws edit mine n (Some l) see.shapes v.some see.reads) n l see.shapes see.reads in
          record {
            left = Some r.left;
            see = record { shapes = see.shapes; reads = r.reads; sees = see.sees; last = see.last };
            some = v.some;
            none = elim (r.end none) [ inl last ↦ inl last | inr none ↦ inr none ];
          }

  -- a piece with this head
  next_is : (h : List ℕ) (picture : Picture) → IsHead h picture → (p q : Piece) (l m more : List ℕ) → IsPiece (PictureHead edit) p → p.head ≡ q.head → piece_text p ++ l ≡ h ++ more → piece_text q ++ m ≡ h ++ (q.cells ++ m)
  next_is h picture is p q l m more of same e =
      let one : p.head ≡ h = (one_head laws.apart p.head h (p.cells ++ l) more of.0.picture picture of.0.is is (sym (append_assoc p.head p.cells l) ∙ e)).0 in
      append_assoc q.head q.cells m ∙ ap (λ k. k ++ (q.cells ++ m)) (sym same ∙ one)

  head_too : (n : ℕ) (picture : Picture) (s : Seen) → SeesHead edit n picture (Some mine) s → SeesHead edit n picture (Some theirs) s
  head_too n picture s v = by v.left v.reads v.next
    where
      by : (left : Option (List ℕ)) → ReadsPictures edit n (Some mine) left v.shapes → ReadsHead picture left → SeesHead edit n picture (Some theirs) s
      by None reads next = absurd reads.read
      by (Some l) reads next = at next.left next.read
        where
          h : List ℕ
          h = next.head

          at : (after : Option (List ℕ)) → Consumes (Some l) after next.head → SeesHead edit n picture (Some theirs) s
          at None more = absurd more
          at (Some after) more =
              let r = read_too (λ bytes. (b : List ℕ) × (bytes ≡ next.head ++ b))
              (λ p q l m is it same end. (q.cells ++ m, next_is next.head picture next.is p q l m end.0 is same end.1))
              (λ cut end.
              let one : cut.head ≡ next.head = (one_head laws.apart cut.head next.head cut.cells end.0 cut.is.picture picture cut.is.is next.is (sym cut.mine_is ∙ end.1)).0 in
              (cut.others, cut.theirs_is ∙ ap (λ k. k ++ cut.others) one))
              (head_kind laws edit mine n picture s v) n l v.shapes reads in
              let end = r.end (after, more) in
              record {
                left = Some r.left;
                shapes = v.shapes;
                reads = r.reads;
                within = v.within;
                next = record { head = next.head; is = next.is; left = Some end.0; read = end.1 };
                seen = v.seen;
                sees = v.sees;
              }

  video_too : (r : Result ℕ RunFault) → is_broken_off r ≡ false → (s : Seen) → VideoSees r edit (Some mine) s → VideoSees r edit (Some theirs) s
  video_too (Ok n) is s v = line_too s v
  video_too (Err Header) is s v = v
  video_too (Err Outside) is s v = line_too s v
  video_too (Err (Frame n)) is s v = line_too s v
  video_too _ is s v = absurd (let bad : true ≡ false = is in cc)

  many_too : (r : Result ℕ RunFault) → is_broken_off r ≡ false → (s : Seen) → PicturesSee r edit (Some mine) s → PicturesSee r edit (Some theirs) s
  many_too (Ok n) is s v = let w = pictures_too n s v.0 v.2 v.1 in (w.0, w.1, v.2)
  many_too (Err Header) is s v = v
  many_too (Err Outside) is s v = (v.0, (v.1.0, head_too v.0 v.1.0 s v.1.1, v.1.2))
  many_too (Err (Frame n)) is s v = elim v [ inl v ↦ inl (last_too n s v) | inr v ↦ inr (v.0, head_too n v.0 s v.1) ]
  many_too _ is s v = absurd (let bad : true ≡ false = is in cc)

  run_too : (r : Result ℕ RunFault) → is_broken_off r ≡ false → (s : Seen) → RunSees r edit (Some mine) s → RunSees r edit (Some theirs) s
  run_too r is s v = elim v [ inl v ↦ inl (video_too r is s v) | inr v ↦ inr (many_too r is s v) ]

pub one_seen : Laws → OneSeen
one_seen laws edit mine theirs r s seen other like is same v w =
    let its : RunSees r edit (Some theirs) other = subst (λ (q : Result ℕ RunFault). RunSees q edit (Some theirs) other) (sym same) w in
    elim like [
      | inl one ↦ one_list laws edit theirs r is seen other (subst (λ (l : List ℕ). RunSees r edit (Some l) seen) one v) its
      | inr alike ↦ one_list laws edit theirs r is seen other (run_too laws edit mine theirs alike r is seen v) its
    ]
