-- What was returned and written for an input is right for each that differs only in what is hidden.
use Rattle.std.proofs.Common.{◌≡◌, ◌⊎◌, ℕ, ◌+◌, Bool, true, false, List, [], ◌∷◌, ◌++◌, Option, Some, None, Result, Ok, Err, length, refl, sym, ap, ◌∙◌, subst, arith, append_assoc, inl, inr}
use Rattle.std.specs.List.{AllByRecursion}
use Rattle.std.proofs.lemmas.List.Elements.{recursion_from_All}
use Rattle.texts.proofs.Options.{some_is}
use Rattle.frame_texts.specs.Picture.{ApartHeads, BeginsWithLetter}
use Rattle.image_planes.specs.Unseen.{PlanesAlike}
use Rattle.frame_texts.specs.Format.{format_of}
use Rattle.frame_edits.specs.Edits.{Edits}
use Rattle.frame_formats.specs.Recipe.{Recipe, HidesAlike, PicturesHide, PicturesHideFilled, VideosHide, VideosHideFilled, video_recipe}
use Rattle.frame_runs.specs.Alike.{Alike, CutAlike, PieceAlike, PiecesAlike, Hides}
use Rattle.frame_runs.specs.Passing.{IsCut, IsNotEditedNext, AtHead, Anything}
use Rattle.frame_runs.specs.Pictures.{PictureHead, BeginsPicture, IsNoPicture}
use Rattle.frame_runs.specs.Program.{Stream, IsStream, begins_picture, are_pictures, front, made_front, heads_of, Carries, CarriesUpTo, CarriesSome, IsCounted, IsNoMore, IsNoStream, BeginsVideo, IsNotEdited, StopsOutside, StopsForMemory, Writes}
use Rattle.frame_runs.specs.Program.Stream.{video, pictures}
use Rattle.frame_runs.specs.Video.{FrameHead}
use Rattle.frame_runs.specs.Stream.{Piece, IsPiece, piece_text, pieces_text, made_text, all_made}
use Rattle.frame_requests.specs.declared.fault.RunFault.{RunFault}
use Rattle.frame_requests.specs.declared.fault.RunFault.TheVariants.{Header, Outside, Frame, Memory, Input, Output}
use Rattle.frame_runs.proofs.FrameLines.{one_front}
use Rattle.frame_runs.proofs.Pieces.{Readable, frames_readable, pictures_readable, one_piece, some_text, not_cut, cut_some, begins_piece, begins_cut, no_begin, edited_piece, edited_cut}

-- what the crates below promise: nothing shows of what steps hide, and no head of a picture begins another
pub record Laws : Type 0 where
  pub videos : VideosHide
  pub pictures : PicturesHide
  pub videos_filled : VideosHideFilled
  pub pictures_filled : PicturesHideFilled
  pub apart : ApartHeads
  pub letter : BeginsWithLetter

pub readable : Laws → (edit : Edits) (stream : Stream) → Readable (heads_of edit stream)
readable laws edit (video line recipe) = frames_readable recipe
readable laws edit pictures = pictures_readable laws.apart laws.letter edit

head_hides : Laws → (edit : Edits) (stream : Stream) → IsStream edit stream → (head : List ℕ) (recipe : Recipe) → heads_of edit stream head recipe → HidesAlike recipe
head_hides laws edit (video line v) is head recipe h = subst HidesAlike (sym h.recipe_is) (laws.videos edit line v is.2)
head_hides laws edit pictures is head recipe h = laws.pictures edit h.picture recipe h.edited

-- ---- pieces

module _ (heads : List ℕ → Recipe → Type 0) (law : Readable heads) (hides : (head : List ℕ) (recipe : Recipe) → heads head recipe → HidesAlike recipe) where
  one_recipe : (n : ℕ) (p q : Piece) → PieceAlike PlanesAlike heads n p q → p.recipe ≡ q.recipe
  one_recipe n p q a = (law.apart p.head q.head [] [] p.recipe q.recipe a.mine.0 a.theirs.0 (ap (λ l. l ++ []) a.same_head)).1

  same_text : (n : ℕ) (p q : Piece) → PieceAlike PlanesAlike heads n p q → made_text n p ≡ made_text n q
  same_text n p q a =
      let same = one_recipe n p q a in
      ap (λ l. p.recipe.head ++ l) (hides p.head p.recipe a.mine.0 n p.cells q.cells a.alike) ∙ ap (λ (r : Recipe). r.head ++ r.frame n q.cells) same

  -- as many pieces of another input, which become the same, and what is after them
  record Carried (ends : List ℕ → Type 0) (n : ℕ) (mine : List Piece) (behind input : List ℕ) : Type 0 where
    pieces : List Piece
    rest : List ℕ
    are : AllByRecursion (IsPiece heads) pieces
    count : length pieces ≡ length mine
    same : all_made n mine ≡ all_made n pieces
    read : input ≡ pieces_text pieces ++ rest
    end : ends behind → ends rest

  mine_cut : (rest other : List ℕ) → CutAlike heads rest other → IsCut heads rest
  mine_cut rest other cut = record { head = cut.head; cells = cut.cells; recipe = cut.recipe; is = cut.is; short = cut.short; read = cut.mine_is }

  carried : (ends : List ℕ → Type 0) → ((p q : Piece) (a b : List ℕ) → IsPiece heads p → IsPiece heads q → ends (piece_text p ++ a) → ends (piece_text q ++ b))
      → (n : ℕ) (mine : List Piece) (behind : List ℕ) (ps qs : List Piece) (rest other : List ℕ) → (rest ≡ other) ⊎ CutAlike heads rest other → (ends rest → ends other) → AllByRecursion (IsPiece heads) mine → PiecesAlike PlanesAlike heads n ps qs
      → pieces_text mine ++ behind ≡ pieces_text ps ++ rest → Carried ends n mine behind (pieces_text qs ++ other)
  carried ends moves n [] behind [] [] rest other last shifts are alike e = record {
    pieces = [];
    rest = other;
    are = tt;
    count = refl;
    same = refl;
    read = refl;
    end = λ end. shifts (subst ends e end);
  }
  carried ends moves n [] behind (p ∷ ps) (q ∷ qs) rest other last shifts are alike e = record {
    pieces = [];
    rest = pieces_text (q ∷ qs) ++ other;
    are = tt;
    count = refl;
    same = refl;
    read = refl;
    end = λ end. subst ends (sym (append_assoc (piece_text q) (pieces_text qs) other)) (moves p q (pieces_text ps ++ rest) (pieces_text qs ++ other) alike.0.mine alike.0.theirs (subst ends (e ∙ append_assoc (piece_text p) (pieces_text ps) rest) end));
  }
  carried ends moves n (x ∷ mine) behind [] [] rest other last shifts are alike e = elim last [
    | inl same ↦ record {
      pieces = x ∷ mine;
      rest = behind;
      are = are;
      count = refl;
      same = refl;
      read = sym same ∙ sym e;
      end = λ end. end;
    }
    | inr cut ↦ absurd (not_cut heads law x (pieces_text mine ++ behind) rest are.0 (sym e ∙ append_assoc (piece_text x) (pieces_text mine) behind) (mine_cut rest other cut))
  ]
  carried ends moves n (x ∷ mine) behind (p ∷ ps) (q ∷ qs) rest other last shifts are alike e =
      let one = one_piece heads law x p (pieces_text mine ++ behind) (pieces_text ps ++ rest) are.0 alike.0.mine
      (sym (append_assoc (piece_text x) (pieces_text mine) behind) ∙ e ∙ append_assoc (piece_text p) (pieces_text ps) rest) in
      let more = carried ends moves (n + 1) mine behind ps qs rest other last shifts are.1 alike.1 one.1 in
      let made : made_text n x ≡ made_text n q = ap (made_text n) one.0 ∙ same_text n p q alike.0 in
      record {
        pieces = q ∷ more.pieces;
        rest = more.rest;
        are = (alike.0.theirs, more.are);
        count = omega (arith, more.count);
        same = λ i. made i ++ more.same i;
        read = append_assoc (piece_text q) (pieces_text qs) other ∙ ap (λ l. piece_text q ++ l) more.read ∙ sym (append_assoc (piece_text q) (pieces_text more.pieces) more.rest);
        end = more.end;
      }
  carried ends moves n _ behind _ _ rest other last shifts are alike e = absurd alike

-- ---- streams

-- two streams of one input are one
pub behind_feed : (line more : List ℕ) → (line ++ 10 ∷ []) ++ more ≡ line ++ 10 ∷ more
behind_feed line more = append_assoc line (10 ∷ []) more

pub one_stream : (edit : Edits) (s t : Stream) (input a b : List ℕ) → IsStream edit s → IsStream edit t → begins_picture input ≡ are_pictures s → begins_picture input ≡ are_pictures t
    → input ≡ front s ++ a → input ≡ front t ++ b → (s ≡ t) × (a ≡ b)
one_stream edit (video line recipe) (video other another) input a b is it mine theirs read other_read =
    let lines = one_front line other a b (recursion_from_All _ line is.0) (recursion_from_All _ other it.0) (sym (behind_feed line a) ∙ sym read ∙ other_read ∙ behind_feed other b) in
    let recipes : recipe ≡ another = some_is recipe another (sym is.2 ∙ ap (video_recipe edit) lines.0 ∙ it.2) in
    ((λ i. video (lines.0 i) (recipes i)), lines.1)
one_stream edit (video line recipe) pictures input a b is it mine theirs read other_read = absurd (let bad : false ≡ true = sym mine ∙ theirs in cc)
one_stream edit pictures (video line recipe) input a b is it mine theirs read other_read = absurd (let bad : true ≡ false = sym mine ∙ theirs in cc)
one_stream edit pictures pictures input a b is it mine theirs read other_read = (refl, sym read ∙ other_read)

-- ---- inputs

module _ (laws : Laws) (edit : Edits) (mine theirs : List ℕ) (a : Alike edit mine theirs) where
  -- as many pieces of the other input make the same text
  record Transferred (ends : List ℕ → Type 0) (count : ℕ) (stream : Stream) (rest text : List ℕ) : Type 0 where
    rest' : List ℕ
    carries : Carries edit count theirs rest' text
    same_stream : stream ≡ carries.stream
    is_stream : a.stream ≡ carries.stream
    end : ends rest → ends rest'

  -- what follows is the same, or a piece that is cut
  shifts : (ends : List ℕ → Type 0) → (CutAlike (heads_of edit a.stream) a.rest a.other → ends a.rest → ends a.other) → ends a.rest → ends a.other
  shifts ends cut end = elim a.ends [ inl same ↦ subst ends same end | inr c ↦ cut c end ]

  theirs_cut : CutAlike (heads_of edit a.stream) a.rest a.other → IsCut (heads_of edit a.stream) a.other
  theirs_cut cut = record { head = cut.head; cells = cut.others; recipe = cut.recipe; is = cut.is; short = cut.other_short; read = cut.theirs_is }

  ours_cut : CutAlike (heads_of edit a.stream) a.rest a.other → IsCut (heads_of edit a.stream) a.rest
  ours_cut cut = record { head = cut.head; cells = cut.cells; recipe = cut.recipe; is = cut.is; short = cut.short; read = cut.mine_is }

  abbrev Moves : (List ℕ → Type 0) → Type 0
  Moves ends = (p q : Piece) (l m : List ℕ) → IsPiece (heads_of edit a.stream) p → IsPiece (heads_of edit a.stream) q → ends (piece_text p ++ l) → ends (piece_text q ++ m)

  transfer : (ends : List ℕ → Type 0) (count : ℕ) (rest text : List ℕ) (c : Carries edit count mine rest text) → Moves ends → (ends a.rest → ends a.other) → Transferred ends count c.stream rest text
  transfer ends count rest text c moves last =
      let one = one_stream edit a.stream c.stream mine (pieces_text a.pieces ++ a.rest) (pieces_text c.pieces ++ rest) a.is c.is a.mine_kind c.kind a.mine_is c.read in
      let are : AllByRecursion (IsPiece (heads_of edit a.stream)) c.pieces = subst (λ (s : Stream). AllByRecursion (IsPiece (heads_of edit s)) c.pieces) (sym one.0) c.are in
      let moved = carried (heads_of edit a.stream) (readable laws edit a.stream) (head_hides laws edit a.stream a.is) ends moves 0 c.pieces rest a.pieces a.others a.rest a.other a.ends last are a.alike (sym one.1) in
      record {
        rest' = moved.rest;
        carries = record {
          stream = a.stream;
          is = a.is;
          kind = a.theirs_kind;
          within = c.within;
          pieces = moved.pieces;
          are = moved.are;
          count_is = moved.count ∙ c.count_is;
          read = a.theirs_is ∙ ap (λ l. front a.stream ++ l) moved.read;
          made = c.made ∙ (λ i. made_front (sym one.0 i) ++ moved.same i);
        };
        same_stream = sym one.0;
        is_stream = refl;
        end = moved.end;
      }

  up_to : (ends : ℕ → List ℕ → Type 0) (count : ℕ) → Moves (ends count) → (ends count a.rest → ends count a.other) → (old new : Option (List ℕ)) → CarriesUpTo edit ends count mine old new → CarriesUpTo edit ends count theirs old new
  up_to ends count moves last old new s =
      let t = transfer (ends count) count s.rest s.text s.carries moves last in
      record { rest = t.rest'; text = s.text; carries = t.carries; ends = t.end s.ends; written = s.written }

  some_too : (old new : Option (List ℕ)) → CarriesSome edit Anything mine old new → CarriesSome edit Anything theirs old new
  some_too old new s = (s.0, up_to Anything s.0 (λ p q l m is it end. tt) (λ end. tt) old new s.1)

  -- what follows so many pieces isn't one there too
  no_more_moves : (s : Stream) (n : ℕ) (p q : Piece) (l m : List ℕ) → IsPiece (heads_of edit s) p → IsPiece (heads_of edit s) q → IsNoMore edit s n (piece_text p ++ l) → IsNoMore edit s n (piece_text q ++ m)
  no_more_moves (video line recipe) n p q l m is it never = elim never [
    | inl last ↦ inl last
    | inr none ↦ elim none [
      | inl never ↦ absurd (never.other is.0.parameters (p.cells ++ l) is.0.are (append_assoc p.head p.cells l ∙ ap (λ h. h ++ (p.cells ++ l)) is.0.head_is))
      | inr cut ↦ absurd (not_cut (FrameHead recipe) (frames_readable recipe) p l (piece_text p ++ l) is refl cut)
    ]
  ]
  no_more_moves pictures n p q l m is it never = record {
    some = some_text (PictureHead edit) (pictures_readable laws.apart laws.letter edit) q m it;
    none = elim never.none [
      | inl last ↦ inl last
      | inr none ↦ elim none [
        | inl never ↦ absurd (no_begin (piece_text p ++ l) never.1 (begins_piece edit p l (piece_text p ++ l) is refl))
        | inr cut ↦ absurd (not_cut (PictureHead edit) (pictures_readable laws.apart laws.letter edit) p l (piece_text p ++ l) is refl cut)
      ]
    ];
  }

  no_more_cut : (s : Stream) (n : ℕ) (other : List ℕ) → IsCut (heads_of edit s) other → IsNoMore edit s n other
  no_more_cut (video line recipe) n other cut = inr (inr cut)
  no_more_cut pictures n other cut = record { some = cut_some (PictureHead edit) (pictures_readable laws.apart laws.letter edit) other cut; none = inr (inr cut) }

  video_is : (line : List ℕ) (recipe : Recipe) → a.stream ≡ video line recipe → (bytes : List ℕ) (ps : List Piece) (rest : List ℕ) → bytes ≡ front a.stream ++ (pieces_text ps ++ rest) → bytes ≡ line ++ 10 ∷ (pieces_text ps ++ rest)
  video_is line recipe e bytes ps rest is = is ∙ ap (λ (t : Stream). front t ++ (pieces_text ps ++ rest)) e ∙ behind_feed line (pieces_text ps ++ rest)

  no_stream_too : (s : Stream) → a.stream ≡ s → IsNoStream (are_pictures s) mine → IsNoStream (are_pictures s) theirs
  no_stream_too (video line recipe) e none = λ line' more one short is.
      let is_stream : IsStream edit (video line recipe) = subst (IsStream edit) e a.is in
      let same : line' ≡ line = (one_front line' line more (pieces_text a.others ++ a.other) (recursion_from_All _ line' one) (recursion_from_All _ line is_stream.0) (sym is ∙ video_is line recipe e theirs a.others a.other a.theirs_is)).0 in
      none line' (pieces_text a.pieces ++ a.rest) one short (video_is line recipe e mine a.pieces a.rest a.mine_is ∙ ap (λ (l : List ℕ). l ++ 10 ∷ (pieces_text a.pieces ++ a.rest)) (sym same))
  no_stream_too pictures e none = no_picture_too a.pieces a.others (subst (λ (t : Stream). PiecesAlike PlanesAlike (heads_of edit t) 0 a.pieces a.others) e a.alike) (subst (λ (t : Stream). (a.rest ≡ a.other) ⊎ CutAlike (heads_of edit t) a.rest a.other) e a.ends)
      (a.mine_is ∙ ap (λ (t : Stream). front t ++ (pieces_text a.pieces ++ a.rest)) e) (a.theirs_is ∙ ap (λ (t : Stream). front t ++ (pieces_text a.others ++ a.other)) e) none
    where
      no_picture_too : (ps qs : List Piece) → PiecesAlike PlanesAlike (PictureHead edit) 0 ps qs → (a.rest ≡ a.other) ⊎ CutAlike (PictureHead edit) a.rest a.other → mine ≡ pieces_text ps ++ a.rest → theirs ≡ pieces_text qs ++ a.other → IsNoPicture mine → IsNoPicture theirs
      no_picture_too [] [] alike last is it none = elim last [
        | inl same ↦ subst IsNoPicture (is ∙ same ∙ sym it) none
        | inr cut ↦ absurd (no_begin mine none (record { head = cut.head; more = cut.cells; picture = cut.is.picture; is = cut.is.is; read = is ∙ cut.mine_is }))
      ]
      no_picture_too (p ∷ ps) (q ∷ qs) alike last is it none = absurd (no_begin mine none (begins_piece edit p (pieces_text ps ++ a.rest) mine alike.0.mine (is ∙ append_assoc (piece_text p) (pieces_text ps) a.rest)))
      no_picture_too _ _ alike last is it none = absurd alike

  at_head_moves : (p q : Piece) (l m : List ℕ) → IsPiece (PictureHead edit) p → IsPiece (PictureHead edit) q → BeginsPicture (piece_text p ++ l) → BeginsPicture (piece_text q ++ m)
  at_head_moves p q l m is it b = begins_piece edit q m (piece_text q ++ m) it refl

  begins_too : (line : List ℕ) (recipe : Recipe) → a.stream ≡ video line recipe → BeginsVideo mine → BeginsVideo theirs
  begins_too line recipe e b =
      let is_stream : IsStream edit (video line recipe) = subst (IsStream edit) e a.is in
      let same : b.line ≡ line = (one_front b.line line b.more (pieces_text a.pieces ++ a.rest) (recursion_from_All _ b.line b.one_line) (recursion_from_All _ line is_stream.0) (sym b.read ∙ video_is line recipe e mine a.pieces a.rest a.mine_is)).0 in
      record { line = line; more = pieces_text a.others ++ a.other; format = b.format; one_line = is_stream.0; short = is_stream.1; read = video_is line recipe e theirs a.others a.other a.theirs_is; named = ap format_of (sym same) ∙ b.named }

  memory_too : (s : Stream) → a.stream ≡ s → (n : ℕ) (old new : Option (List ℕ)) → StopsForMemory (are_pictures s) n edit mine old new → StopsForMemory (are_pictures s) n edit theirs old new
  memory_too (video line recipe) e n old new w = (w.0, begins_too line recipe e w.1, w.2)
  memory_too pictures e n old new w =
      up_to AtHead n (subst (λ (s : Stream). (p q : Piece) (l m : List ℕ) → IsPiece (heads_of edit s) p → IsPiece (heads_of edit s) q → BeginsPicture (piece_text p ++ l) → BeginsPicture (piece_text q ++ m)) (sym e) at_head_moves)
      (shifts BeginsPicture (λ cut b. begins_cut edit a.other (subst (λ (s : Stream). IsCut (heads_of edit s) a.other) e (theirs_cut cut)))) old new w

  not_edited : {A : Type 0} (s : Stream) → a.stream ≡ s → are_pictures s ≡ false → IsNotEdited edit mine → A
  not_edited (video line recipe) e kind n =
      let b = n.begins in
      let is_stream : IsStream edit (video line recipe) = subst (IsStream edit) e a.is in
      let same : b.line ≡ line = (one_front b.line line b.more (pieces_text a.pieces ++ a.rest) (recursion_from_All _ b.line b.one_line) (recursion_from_All _ line is_stream.0) (sym b.read ∙ video_is line recipe e mine a.pieces a.rest a.mine_is)).0 in
      absurd (let bad : Some recipe ≡ None = sym is_stream.2 ∙ ap (video_recipe edit) (sym same) ∙ n.none in cc)
  not_edited pictures e kind n = absurd (let bad : true ≡ false = kind in cc)

  not_edited_moves : (n : ℕ) (p q : Piece) (l m : List ℕ) → IsPiece (PictureHead edit) p → IsPiece (PictureHead edit) q → IsNotEditedNext edit n (piece_text p ++ l) → IsNotEditedNext edit n (piece_text q ++ m)
  not_edited_moves n p q l m is it not = absurd (edited_piece laws.apart edit p l (piece_text p ++ l) is refl not.1)

  outside_too : (s : Stream) → a.stream ≡ s → (old new : Option (List ℕ)) → StopsOutside (are_pictures s) edit mine old new → StopsOutside (are_pictures s) edit theirs old new
  outside_too (video line recipe) e old new w = not_edited (video line recipe) e refl w.1
  outside_too pictures e old new w = (
    w.0,
    up_to (IsNotEditedNext edit) w.0 (subst (λ (s : Stream). (p q : Piece) (l m : List ℕ) → IsPiece (heads_of edit s) p → IsPiece (heads_of edit s) q → IsNotEditedNext edit w.0 (piece_text p ++ l) → IsNotEditedNext edit w.0 (piece_text q ++ m)) (sym e) (not_edited_moves w.0))
        (shifts (IsNotEditedNext edit w.0) (λ cut not. absurd (edited_cut laws.apart edit a.rest (subst (λ (s : Stream). IsCut (heads_of edit s) a.rest) e (ours_cut cut)) not.1))) old new w.1,
  )

  whole : (n : ℕ) (text rest : List ℕ) → rest ≡ [] → (c : Carries edit n theirs rest text) → IsCounted c.stream n → (d : Carries edit n theirs [] text) × IsCounted d.stream n
  whole n text rest none c counted = subst (λ (l : List ℕ). (d : Carries edit n theirs l text) × IsCounted d.stream n) none (c, counted)

  writes_too : (r : Result ℕ RunFault) (old new : Option (List ℕ)) → Writes r edit (Some mine) old new → Writes r edit (Some theirs) old new
  writes_too (Ok n) old new w =
      let t = transfer (λ (l : List ℕ). l ≡ []) n [] w.0 w.1 (λ p q l m is it none. absurd (some_text (heads_of edit a.stream) (readable laws edit a.stream) p l is none))
      (shifts (λ (l : List ℕ). l ≡ []) (λ cut none. absurd (cut_some (heads_of edit a.stream) (readable laws edit a.stream) a.rest (ours_cut cut) none))) in
      let d = whole n w.0 t.rest' (t.end refl) t.carries (subst (λ (s : Stream). IsCounted s n) t.same_stream w.2) in
      (w.0, d.0, d.1, w.3)
  writes_too (Err (Frame n)) old new w =
      let t = transfer (IsNoMore edit a.stream n) n w.0 w.1 w.2 (no_more_moves a.stream n) (shifts (IsNoMore edit a.stream n) (λ cut none. no_more_cut a.stream n a.other (theirs_cut cut))) in
      let none : IsNoMore edit a.stream n w.0 = subst (λ (s : Stream). IsNoMore edit s n w.0) (t.same_stream ∙ sym t.is_stream) w.3 in
      (t.rest', w.1, t.carries, subst (λ (s : Stream). IsNoMore edit s n t.rest') t.is_stream (t.end none), w.4)
  writes_too (Err Input) old new w = elim w [ inl keeps ↦ inl keeps | inr s ↦ inr (some_too old new s) ]
  writes_too (Err Output) old new w =
      let t = transfer (λ (l : List ℕ). Unit {0}) w.0 w.1 w.2 w.3 (λ p q l m is it end. tt) (λ end. tt) in
      (w.0, t.rest', w.2, t.carries, w.4)
  writes_too (Err Header) old new w = (w.0, subst (λ (b : Bool). IsNoStream b theirs) (sym a.theirs_kind) (no_stream_too a.stream refl (subst (λ (b : Bool). IsNoStream b mine) a.mine_kind w.1)))
  writes_too (Err Outside) old new w = subst (λ (b : Bool). StopsOutside b edit theirs old new) (sym a.theirs_kind) (outside_too a.stream refl old new (subst (λ (b : Bool). StopsOutside b edit mine old new) a.mine_kind w))
  writes_too (Err (Memory n)) old new w = subst (λ (b : Bool). StopsForMemory b n edit theirs old new) (sym a.theirs_kind) (memory_too a.stream refl n old new (subst (λ (b : Bool). StopsForMemory b n edit mine old new) a.mine_kind w))

pub hides : Laws → (r : Result ℕ RunFault) (edit : Edits) (input old new : Option (List ℕ)) → Writes r edit input old new → Hides r edit input old new
hides laws r edit None old new w = tt
hides laws r edit (Some mine) old new w = λ theirs a. writes_too laws edit mine theirs a r old new w
