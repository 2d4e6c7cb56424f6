-- One round of the loop over frames and of the loop over pictures.
use Rattle.std.proofs.Common.{◌≡◌, ◌≢◌, ℕ, ◌+◌, ◌<◌, ◌≤◌, List, [], ◌∷◌, ◌++◌, Option, Some, None, Result, Ok, Err, length, take, refl, sym, ◌∙◌, subst, arith, append-nil, inl, inr, IfSome}
use Rattle.std.specs.Io.KnownBytes.{Consumes, Appends, Keeps}
use Rattle.std.proofs.KnownBytes.{Consumes-trans}
use Rattle.devices.specs.Whole.{AppendsBeginning}
use Rattle.frame_texts.specs.Picture.{ApartHeads, BeginsWithLetter}
use Rattle.frame_edits.specs.Edits.{Edits}
use Rattle.frame_formats.specs.Recipe.{Recipe, buffers_len, picture_recipe}
use Rattle.frame_texts.specs.declared.picture.Picture.{Picture}
use Rattle.frame_runs.specs.Stream.{Piece, piece, pieces_text, all_made}
use Rattle.frame_runs.specs.Video.{FrameHead, with_head}
use Rattle.frame_runs.specs.Pictures.{IsHead, PictureHead, PictureWithin, IsNoPicture, IsPictureNotEdited, behind_letter}
use Rattle.frame_runs.specs.Passing.{LineRead, IsNoFrameLine, IsNoFrame, IsNoNext, IsNotEditedNext, IsCut, AtHead, Passed, PassedUpTo, PassedSome, PassedPart, CellsPassed, PassesCells, PassesFrames, PassesPicture, PassesPictures, Anything}
use Rattle.frame_runs.specs.Kept.{HasNoPlan, NeedsMemory, PictureStops, PicturesStop, Stops, PassedLast, LastIs, last_piece}
use Rattle.frame_runs.specs.declared.pictures.Kept.{Kept}
use Rattle.texts.proofs.Options.{some_is}
use Rattle.frame_requests.specs.declared.fault.RunFault.{RunFault}
use Rattle.frame_requests.specs.declared.fault.RunFault.TheVariants.{Header, Outside, Frame, Memory, Input, Output}
use Rattle.frame_runs.proofs.Pieces.{frames_readable, pictures_readable, cut_piece, cut_some}
use Rattle.frame_runs.proofs.OneMore.{all_as, none_passed, one_more, part_more, passed_on}

pub nothing_said : (n : ℕ) (left : Option (List ℕ)) → IfSome left (Anything n)
nothing_said n None = tt
nothing_said n (Some bytes) = tt

if_some : (P Q : List ℕ → Type 0) → ((bytes : List ℕ) → P bytes → Q bytes) → (left : Option (List ℕ)) → IfSome left P → IfSome left Q
if_some P Q f None p = tt
if_some P Q f (Some bytes) p = f bytes p

module _ (heads : List ℕ → Recipe → Type 0) (n : ℕ) (r0 r1 w0 w1 : Option (List ℕ)) (p : Passed heads n r0 r1 w0 w1) where
  same_text : (w2 : Option (List ℕ)) → w2 ≡ w1 → Passed heads n r0 r1 w0 w2
  same_text w2 same = subst (λ w. Passed heads n r0 r1 w0 w) (sym same) p

  -- it ends here, where this holds of what is left
  pub ends_at : (stop : ℕ → List ℕ → Type 0) → IfSome r1 (stop n) → (k : ℕ) → k ≡ n → (w2 : Option (List ℕ)) → w2 ≡ w1 → PassedUpTo heads stop k r0 w0 w2
  ends_at stop end k count w2 same = record { left = r1; passed = subst (λ m. Passed heads m r0 r1 w0 w2) (sym count) (same_text w2 same); ends = subst (λ m. IfSome r1 (stop m)) (sym count) end }

  ends_some : (stop : ℕ → List ℕ → Type 0) → IfSome r1 (stop n) → (w2 : Option (List ℕ)) → w2 ≡ w1 → PassedSome heads stop r0 w0 w2
  ends_some stop end w2 same = record { count = n; up_to = ends_at stop end n refl w2 same }

  -- after a head that was read
  module _ (within : n < 18446744073709551615) (head : List ℕ) (r : Recipe) (is : heads head r) (r2 r3 : Option (List ℕ)) (read : Consumes r1 r2 head) where
    cells_passed : (w2 : Option (List ℕ)) → CellsPassed (Appends w1 w2) r n r2 r3 → Passed heads (n + 1) r0 r3 w0 w2
    cells_passed w2 c = one_more heads n (piece head c.cells r) (is, c.sized) r0 r1 r3 w0 w1 w2 p (Consumes-trans r1 r2 r3 head c.cells read c.read) within c.written

    cells_begun : (w2 : Option (List ℕ)) → CellsPassed (AppendsBeginning w1 w2) r n r2 r3 → PassedPart heads r0 w0 w2
    cells_begun w2 c = part_more heads n (piece head c.cells r) (is, c.sized) r0 r1 r3 w0 w1 w2 p (Consumes-trans r1 r2 r3 head c.cells read c.read) within c.written

-- ---- frames

module _ (video : Recipe) (n len : ℕ) (within : n < 18446744073709551615) (line : List ℕ) (r0 r1 r2 r3 w0 w1 w2 : Option (List ℕ)) (p : Passed (FrameHead video) n r0 r1 w0 w1) (found : LineRead len line r1 r2) where
  frame_head : FrameHead video (take len line) (with_head (take len line) video)
  frame_head = record { parameters = found.parameters; are = found.are; head_is = found.line_is; recipe_is = refl }

  pub frame_passed : (Unit {0}) → CellsPassed (Appends w1 w2) (with_head (take len line) video) n r2 r3 → Passed (FrameHead video) (n + 1) r0 r3 w0 w2
  frame_passed x c = cells_passed (FrameHead video) n r0 r1 w0 w1 p within (take len line) (with_head (take len line) video) frame_head r2 r3 found.read w2 c

  pub frame_stopped : (e : RunFault) → PassesCells (Err e) (with_head (take len line) video) n r2 r3 w1 w2 → PassesFrames (Err e) video r0 r3 w0 w2
  frame_stopped (Frame k) c = ends_at (FrameHead video) n r0 r1 w0 w1 p (IsNoFrame video)
      (if_some (IsCut (FrameHead video)) (IsNoFrame video n) (λ bytes cut. inr (inr cut)) r1 (cut_piece (FrameHead video) (frames_readable video) (take len line) c.1.cells (with_head (take len line) video) r1 r2 r3 frame_head found.read c.1.read c.1.short c.1.end)) k c.0 w2 c.2
  frame_stopped Output c = cells_begun (FrameHead video) n r0 r1 w0 w1 p within (take len line) (with_head (take len line) video) frame_head r2 r3 found.read w2 c
  frame_stopped Input c = ends_some (FrameHead video) n r0 r1 w0 w1 p Anything (nothing_said n r1) w2 c.1
  frame_stopped _ c = absurd c

-- where no frame follows
module _ (video : Recipe) (n : ℕ) (r0 r1 w0 w1 : Option (List ℕ)) (p : Passed (FrameHead video) n r0 r1 w0 w1) where
  pub no_frame : IfSome r1 IsNoFrameLine → PassedUpTo (FrameHead video) (IsNoFrame video) n r0 w0 w1
  no_frame none = ends_at (FrameHead video) n r0 r1 w0 w1 p (IsNoFrame video) (if_some IsNoFrameLine (IsNoFrame video n) (λ bytes no. inr (inl no)) r1 none) n refl w1 refl

  pub last_frame : n ≡ 18446744073709551615 → PassedUpTo (FrameHead video) (IsNoFrame video) 18446744073709551615 r0 w0 w1
  last_frame last = ends_at (FrameHead video) n r0 r1 w0 w1 p (IsNoFrame video) (if_some (λ bytes. Unit {0}) (IsNoFrame video n) (λ bytes u. inl last) r1 (nothing_said n r1)) 18446744073709551615 (sym last) w1 refl

-- ---- one picture

-- an answer with the picture
abbrev pub as_picture : Picture → Result (Unit {0}) RunFault → Result Picture RunFault
as_picture picture (Ok x) = Ok picture
as_picture picture (Err e) = Err e

module _ (apart : ApartHeads) (letter : BeginsWithLetter) (limit : ℕ) (edit : Edits) (n : ℕ) (picture : Picture) (recipe : Recipe) (head : List ℕ) (named : IsHead head picture) (edited : picture_recipe edit picture ≡ Some recipe) (small : buffers_len recipe ≤ limit)
    (r1 r2 r3 w1 w2 : Option (List ℕ)) (read : Consumes r1 r2 head) where
  picture_head : PictureHead edit head recipe
  picture_head = record { picture = picture; is = named; edited = edited }

  head_within : PictureWithin limit edit head recipe
  head_within = record { is = picture_head; within = small }

  pub picture_made : (r : Result (Unit {0}) RunFault) → PassesCells r recipe n r2 r3 w1 w2 → PassesPicture (as_picture picture r) limit edit n r1 r3 w1 w2
  unfolding picture_head head_within
  picture_made (Ok x) c = (piece head c.cells recipe, (head_within, c.sized), refl, Consumes-trans r1 r2 r3 head c.cells read c.read, c.written)
  picture_made (Err (Frame k)) c = (
    c.0,
    if_some (IsCut (PictureHead edit)) (IsNoNext edit n) (λ bytes cut. record { some = cut_some (PictureHead edit) (pictures_readable apart letter edit) bytes cut; none = inr (inr cut) })
        r1 (cut_piece (PictureHead edit) (pictures_readable apart letter edit) head c.1.cells recipe r1 r2 r3 picture_head read c.1.read c.1.short c.1.end),
    c.2,
  )
  picture_made (Err Output) c = (piece head c.cells recipe, (head_within, c.sized), Consumes-trans r1 r2 r3 head c.cells read c.read, c.written)
  picture_made (Err Input) c =
      let cut : IsCut (PictureHead edit) (head ++ c.0.bytes) = record { head = head; cells = c.0.bytes; recipe = recipe; is = picture_head; short = c.0.are; read = refl } in (
        record {
          bytes = head ++ c.0.bytes;
          read = Consumes-trans r1 r2 r3 head c.0.bytes read c.0.read;
          are = (cut_some (PictureHead edit) (pictures_readable apart letter edit) (head ++ c.0.bytes) cut, inr cut);
        },
        c.1,
      )
  picture_made _ c = absurd c

-- no plan for the picture whose head was read
pub not_planned : (limit : ℕ) (edit : Edits) (n : ℕ) (picture : Picture) (head : List ℕ) → IsHead head picture → (r1 r2 w : Option (List ℕ)) → Consumes r1 r2 head → (e : RunFault) → HasNoPlan (picture_recipe edit picture ≡ None) n e → PassesPicture (Err e) limit edit n r1 r2 w w
not_planned limit edit n picture head is None r2 w read Outside tells = (tt, refl)
not_planned limit edit n picture head is None r2 w read (Memory k) tells = (tells, tt, refl)
not_planned limit edit n picture head is (Some bytes) None w read e tells = absurd read
not_planned limit edit n picture head is (Some bytes) (Some rest) w read Outside tells = (record { begins = record { head = head; more = rest; picture = picture; is = is; read = read }; none = tells }, refl)
not_planned limit edit n picture head is (Some bytes) (Some rest) w read (Memory k) tells = (tells, record { head = head; more = rest; picture = picture; is = is; read = read }, refl)
not_planned limit edit n picture head is _ r2 w read _ tells = absurd tells

-- out of memory where the head of another picture was read
pub new_head : (edit : Edits) (picture : Picture) (head : List ℕ) → IsHead head picture → (before : Option Picture) (old new : Option (List ℕ)) → Consumes old new head → (e : RunFault) → NeedsMemory edit before picture e → PictureStops {T = Kept} (Err e) edit before old new
new_head edit picture head is before old new read (Memory n) needs = record { head = head; picture = picture; is = is; read = read; other = needs.0; starts = needs.1 }
new_head edit picture head is before old new read _ needs = tt

-- ---- pictures

last_snoc : (ps : List Piece) (x : Piece) → last_piece (ps ++ x ∷ []) ≡ Some x
last_snoc [] x = refl
last_snoc (p ∷ []) x = refl
last_snoc (p ∷ (q ∷ ps)) x = last_snoc (q ∷ ps) x

keeps_none : (pieces : List Piece) (w0 w1 : Option (List ℕ)) → length pieces ≡ 0 → Appends w0 w1 (all_made 0 pieces) → Keeps w0 w1
keeps_none [] None w1 none written = tt
keeps_none [] (Some old) None none written = absurd written
keeps_none [] (Some old) (Some new) none written = written ∙ append-nil old
keeps_none (x ∷ xs) w0 w1 none written = absurd (omega (arith, none))

reads_none : (P : List ℕ → Type 0) (pieces : List Piece) (r0 r1 : Option (List ℕ)) → length pieces ≡ 0 → Consumes r0 r1 (pieces_text pieces) → IfSome r1 P → IfSome r0 P
reads_none P [] None r1 none read holds = tt
reads_none P [] (Some bytes) None none read holds = absurd read
reads_none P [] (Some bytes) (Some rest) none read holds = subst P (sym read) holds
reads_none P (x ∷ xs) r0 r1 none read holds = absurd (omega (arith, none))

module _ (limit : ℕ) (edit : Edits) (n : ℕ) (r0 r1 r2 w0 w1 w2 : Option (List ℕ)) (within : n < 18446744073709551615) (p : Passed (PictureWithin limit edit) n r0 r1 w0 w1) where
  unfoldable pub picture_passed : (picture : Picture) → PassesPicture (Ok picture) limit edit n r1 r2 w1 w2 → Passed (PictureWithin limit edit) (n + 1) r0 r2 w0 w2
  picture_passed picture c = one_more (PictureWithin limit edit) n c.0 c.1 r0 r1 r2 w0 w1 w2 p c.3 within c.4

  -- and it is the last
  pub picture_last : (picture : Picture) → PassesPicture (Ok picture) limit edit n r1 r2 w1 w2 → PassedLast limit edit (Some picture) (n + 1) r0 r2 w0 w2
  unfolding picture_passed one_more
  picture_last picture c = record { passed = picture_passed picture c; last = (c.0, last_snoc p.pieces c.0, subst (IsHead c.0.head) c.2 c.1.0.is.is) }

  pub picture_stopped : (e : RunFault) → PassesPicture (Err e) limit edit n r1 r2 w1 w2 → PassesPictures (Err e) limit edit r0 r2 w0 w2
  picture_stopped (Frame k) c = ends_at (PictureWithin limit edit) n r0 r1 w0 w1 p (IsNoNext edit) c.1 k c.0 w2 c.2
  picture_stopped Output c = part_more (PictureWithin limit edit) n c.0 c.1 r0 r1 r2 w0 w1 w2 p c.2 within c.3
  picture_stopped Header c =
      let q : Passed (PictureWithin limit edit) 0 r0 r1 w0 w2 = subst (λ m. Passed (PictureWithin limit edit) m r0 r1 w0 w2) c.0 (same_text (PictureWithin limit edit) n r0 r1 w0 w1 p w2 c.2) in
      (keeps_none q.pieces w0 w2 q.count_is q.written, reads_none IsNoPicture q.pieces r0 r1 q.count_is q.read c.1)
  picture_stopped Outside c = ends_some (PictureWithin limit edit) n r0 r1 w0 w1 p (IsNotEditedNext edit) (if_some (IsPictureNotEdited edit) (IsNotEditedNext edit n) (λ bytes not. (within, not)) r1 c.0) w2 c.1
  picture_stopped (Memory k) c = ends_at (PictureWithin limit edit) n r0 r1 w0 w1 p AtHead c.1 k c.0 w2 c.2
  picture_stopped Input c = ends_some (PictureWithin limit edit) n r0 r1 w0 w1 p Anything (nothing_said n r1) w2 c.1

-- the letter of the next picture
pub none_read : (old new : Option (List ℕ)) → Consumes old new (80 ∷ []) → Consumes old (behind_letter new) []
none_read None new read = tt
none_read (Some bytes) None read = absurd read
none_read (Some bytes) (Some rest) read = read

-- no plan is kept before the first picture
pub none_last : (limit : ℕ) (edit : Edits) (r w : Option (List ℕ)) → PassedLast limit edit None 0 r r w w
unfolding none_passed
none_last limit edit r w = record { passed = none_passed (PictureWithin limit edit) r w; last = refl }

pub next_letter_last : (limit : ℕ) (edit : Edits) (before : Option Picture) (n : ℕ) (r0 r1 r2 w0 w1 : Option (List ℕ)) → PassedLast limit edit before n r0 r1 w0 w1 → Consumes r1 r2 (80 ∷ []) → PassedLast limit edit before n r0 (behind_letter r2) w0 w1
unfolding passed_on
next_letter_last limit edit before n r0 r1 r2 w0 w1 p read = record { passed = passed_on (PictureWithin limit edit) n r0 r1 (behind_letter r2) w0 w1 p.passed (none_read r1 r2 read); last = p.last }

-- another picture than the last
other_last : (before : Option Picture) (ps : List Piece) → LastIs before ps → (picture : Picture) → IfSome before (λ p. p ≢ picture) → IfSome (last_piece ps) (λ last. IsHead last.head picture → ⊥)
other_last None ps none picture other = subst (λ l. IfSome (last_piece l) (λ last. IsHead last.head picture → ⊥)) (sym none) tt
other_last (Some p) ps last picture other = subst (λ l. IfSome l (λ last. IsHead last.head picture → ⊥)) (sym last.1) (λ is. other (some_is p picture (sym last.2.named ∙ is.named)))

-- out of memory at the head of the next picture
pub next_head : (limit : ℕ) (edit : Edits) (before : Option Picture) (n : ℕ) (r0 r1 r2 w0 w1 : Option (List ℕ)) → PassedLast limit edit before n r0 r1 w0 w1 → (e : RunFault) → ((k : ℕ) → e ≡ Memory k → k ≡ n) → PictureStops {T = Kept} (Err e) edit before r1 r2 → PicturesStop {T = ℕ} (Err e) edit r0 r2
next_head limit edit before n r0 r1 r2 w0 w1 p (Memory k) count stop = record {
  pieces = p.passed.pieces;
  are = all_as (PictureWithin limit edit) (PictureHead edit) (λ h r is. is.is) p.passed.pieces p.passed.are;
  count_is = p.passed.count_is ∙ sym (count k refl);
  head = stop.head;
  picture = stop.picture;
  is = stop.is;
  read = Consumes-trans r0 r1 r2 _ _ p.passed.read stop.read;
  other = other_last before p.passed.pieces p.last stop.picture stop.other;
  starts = stop.starts;
}
next_head limit edit before n r0 r1 r2 w0 w1 p _ count stop = tt

-- its number is that of the pictures before
pub memory_count : (limit : ℕ) (edit : Edits) (n : ℕ) (r1 r2 w1 w2 : Option (List ℕ)) (e : RunFault) → PassesPicture (Err e) limit edit n r1 r2 w1 w2 → (k : ℕ) → e ≡ Memory k → k ≡ n
memory_count limit edit n r1 r2 w1 w2 e passes k is = (subst (λ (f : RunFault). PassesPicture (Err f) limit edit n r1 r2 w1 w2) is passes).0

-- ---- the first byte of pictures

-- what was read from the letter on was read from the first byte on
pub read_behind : (old left new : Option (List ℕ)) (bytes : List ℕ) → Consumes old left (80 ∷ []) → Consumes (behind_letter left) new bytes → Consumes old new bytes
read_behind None left new bytes letter read = tt
read_behind (Some all) None new bytes letter read = absurd letter
read_behind (Some all) (Some rest) new bytes letter read = subst (λ (l : List ℕ). Consumes (Some l) new bytes) (sym letter) read

-- what is said of memory after the letter is so from the first byte on
pub behind_letter_stops : (r : Result ℕ RunFault) (edit : Edits) (old left new : Option (List ℕ)) → Consumes old left (80 ∷ []) → PicturesStop r edit (behind_letter left) new → Stops r edit old new
behind_letter_stops (Err (Memory n)) edit old left new letter stop = inr (record { pieces = stop.pieces; are = stop.are; count_is = stop.count_is; head = stop.head; picture = stop.picture; is = stop.is; read = read_behind old left new (pieces_text stop.pieces ++ stop.head) letter stop.read; other = stop.other; starts = stop.starts })
behind_letter_stops _ edit old left new letter stop = tt
