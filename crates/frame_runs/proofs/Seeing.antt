-- Which shapes were seen, one picture after the other.
use Rattle.std.proofs.Common.{◌≡◌, ◌≢◌, IfOk, ◌<◌, ◌≤◌, ◌+◌, ℕ, false, All, List, [], ◌∷◌, ◌++◌, Option, Some, None, Result, Ok, Err, length, refl, sym, ap, ◌∙◌, subst, arith, inl, inr}
use Rattle.std.specs.List.{slice_get}
use Rattle.std.specs.Io.KnownBytes.{Consumes}
use Rattle.std.proofs.KnownBytes.{Consumes-nil, Consumes-trans}
use Rattle.std.proofs.lemmas.Bool.{cases_lt}
use Rattle.std.proofs.lemmas.List.{append-nil, get_or_append_left}
use Rattle.std.proofs.lemmas.Option.{slice_get-get_or, slice_get_within}
use Rattle.std.proofs.Math.Seq.{get_or-append_seam}
use Rattle.texts.proofs.Options.{some_is}
use Rattle.frame_edits.specs.Edits.{Edits}
use Rattle.frame_texts.specs.Format.{format_of}
use Rattle.frame_texts.specs.Rates.{rate_of}
use Rattle.frame_texts.specs.declared.header.Format.{Format}
use Rattle.frame_texts.specs.declared.picture.Picture.{Picture}
use Rattle.frame_texts.specs.declared.rate.Rate.{Rate}
use Rattle.frame_requests.specs.declared.fault.RunFault.{RunFault}
use Rattle.frame_requests.specs.declared.fault.RunFault.TheVariants.{Header, Outside, Frame, Memory, Input, Output}
use Rattle.frame_requests.specs.Seen.{Sees, last_seen, shape_at, shape_seen}
use Rattle.frame_requests.specs.declared.seen.Seen.{Seen}
use Rattle.frame_requests.specs.declared.seen.Shape.{Shape}
use Rattle.frame_requests.specs.declared.seen.Shape.TheVariants as shape
use Rattle.frame_formats.specs.Recipe.{Recipe, picture_recipe}
use Rattle.frame_formats.specs.declared.plans.PlanFault.{PlanFault}
use Rattle.frame_formats.specs.declared.plans.PlanFault.TheVariants.{Outside as NoPlan, Memory as NoMemory}
use Rattle.frame_texts.specs.Picture.{BeginsWithLetter}
use Rattle.frame_runs.specs.Kept.{HasNoPlan}
use Rattle.frame_runs.specs.Passing.{PassesCells, PassesFrames, PassesPicture}
use Rattle.frame_runs.specs.Program.{begins_picture, fault_of_plan}
use Rattle.frame_runs.specs.Pictures.{IsHead, IsHeadFound, PictureHead, behind_letter}
use Rattle.frame_runs.specs.Seen.{HasShape, PicturesSee, ReadsHead, ReadsPictures, RunSees, SeesHead, SeesIt, SeesLast, SeesNoHead, SeesOneMore, SeesPicture, SeesPictures, SeesSome, SeesVideo, VideoSees, next_number}
use Rattle.frame_runs.specs.Stream.{Piece, IsPiece, pieces_text}
use Rattle.frame_runs.proofs.Heads.{no_letter}
use Rattle.frame_runs.proofs.OneMore.{all_snoc, length_snoc, text_snoc}
use Rattle.frame_runs.proofs.Rounds.{none_read, read_behind}

-- ---- the shape of a picture before the last one

shape_before : (shapes : List (ℕ × Shape)) (number : ℕ) (last : Shape) (n : ℕ) → n < number → shape_at ((number, last) ∷ shapes) n ≡ shape_at shapes n
shape_before shapes number last n before = grind (arith, before)

shape_from : (shapes : List (ℕ × Shape)) (number : ℕ) (last : Shape) (n : ℕ) → number ≤ n → shape_at ((number, last) ∷ shapes) n ≡ Some last
shape_from shapes number last n from = grind (arith, from)

have_before : (shapes : List (ℕ × Shape)) (number : ℕ) (last : Shape) (pieces : List Piece) → length pieces ≡ number → ((n : ℕ) (p : Piece) → slice_get pieces n ≡ Some p → HasShape shapes n p) → (n : ℕ) (p : Piece) → slice_get pieces n ≡ Some p → HasShape ((number, last) ∷ shapes) n p
have_before shapes number last pieces count have n p is =
    let h = have n p is in
    record { picture = h.picture; is = h.is; there = shape_before shapes number last n (omega (arith, slice_get_within pieces n p is, count)) ∙ h.there }

-- a piece of some and one more is one of them or the last
piece_before : (pieces : List Piece) (x p : Piece) (n : ℕ) → n < length pieces → slice_get (pieces ++ x ∷ []) n ≡ Some p → slice_get pieces n ≡ Some p
piece_before pieces x p n before is =
    slice_get-get_or pieces n x before ∙ ap Some (sym (get_or_append_left pieces (x ∷ []) x n before)) ∙ sym (slice_get-get_or (pieces ++ x ∷ []) n x (slice_get_within (pieces ++ x ∷ []) n p is)) ∙ is

last_piece_is : (pieces : List Piece) (x p : Piece) → slice_get (pieces ++ x ∷ []) (length pieces) ≡ Some p → x ≡ p
last_piece_is pieces x p is =
    some_is x p (ap Some (sym (get_or-append_seam pieces x [] x)) ∙ sym (slice_get-get_or (pieces ++ x ∷ []) (length pieces) x (slice_get_within (pieces ++ x ∷ []) (length pieces) p is)) ∙ is)

-- ---- the loop over pictures

pub none_seen : (edit : Edits) (r : Option (List ℕ)) (s : Seen) → Sees edit.steps [] s → last_seen s ≤ 0 → SeesPictures edit 0 r r s
none_seen edit r s sees last = record {
  shapes = [];
  reads = record { pieces = []; are = tt; count_is = refl; read = Consumes-nil r; have = λ n p is. cc; next = refl };
  sees = sees;
  last = last;
}

-- what was found in the place of a head is one that was read
pub head_read : (picture : Picture) (left new : Option (List ℕ)) → IsHeadFound (Some picture) left new → ReadsHead picture (behind_letter left)
head_read picture left new found = record { head = found.0; is = found.1; left = new; read = found.2 }

-- a picture that has no plan was seen
pub unplanned : (edit : Edits) (number : ℕ) (picture : Picture) (input : Option (List ℕ)) (old new : Seen) → SeesIt edit number picture input old new → (e : RunFault) → HasNoPlan (picture_recipe edit picture ≡ None) number e → SeesPicture (Err e) edit number input old new
unplanned edit number picture input old new it Outside none = (picture, it, none)
unplanned edit number picture input old new it (Memory n) none = (picture, it)
unplanned edit number picture input old new it Header none = absurd none
unplanned edit number picture input old new it (Frame n) none = absurd none
unplanned edit number picture input old new it Input none = absurd none
unplanned edit number picture input old new it Output none = absurd none

-- and one whose cells end too early, or can't be read or written
pub cells_left : (edit : Edits) (number : ℕ) (picture : Picture) (input : Option (List ℕ)) (old new : Seen) → SeesIt edit number picture input old new → (e : RunFault) (recipe : Recipe) (count : ℕ) (left rest held sent : Option (List ℕ)) → PassesCells (Err e) recipe count left rest held sent → SeesPicture (Err e) edit number input old new
cells_left edit number picture input old new it (Frame n) recipe count left rest held sent c = inr (picture, it)
cells_left edit number picture input old new it Output recipe count left rest held sent c = (picture, it)
cells_left edit number picture input old new it Input recipe count left rest held sent c = inr (picture, it)
cells_left edit number picture input old new it Header recipe count left rest held sent c = absurd c
cells_left edit number picture input old new it Outside recipe count left rest held sent c = absurd c
cells_left edit number picture input old new it (Memory n) recipe count left rest held sent c = absurd c

module _ (limit : ℕ) (edit : Edits) (n : ℕ) (r0 r1 r2 : Option (List ℕ)) (old new : Seen) (seen : SeesPictures edit n r0 r1 old) where
  -- one picture more
  pub picture_seen : (w1 w2 : Option (List ℕ)) (picture : Picture) → PassesPicture (Ok picture) limit edit n r1 r2 w1 w2 → SeesPicture (Ok picture) edit n r1 old new → SeesPictures edit (n + 1) r0 r2 new
  picture_seen w1 w2 picture c next =
      let sees = next seen.shapes seen.sees seen.last in
      let reads = seen.reads in
      record {
        shapes = (n, shape.Picture picture) ∷ seen.shapes;
        reads = record {
          pieces = reads.pieces ++ c.0 ∷ [];
          are = all_snoc (IsPiece (PictureHead edit)) reads.pieces c.0 reads.are (c.1.0.is, c.1.1);
          count_is = length_snoc reads.pieces c.0 ∙ ap (λ k. k + 1) reads.count_is;
          read = subst (Consumes r0 r2) (text_snoc reads.pieces c.0) (Consumes-trans r0 r1 r2 _ _ reads.read c.3);
          have = λ m p is. elim (cases_lt m (length reads.pieces)) [
            | inl before ↦ have_before seen.shapes n (shape.Picture picture) reads.pieces reads.count_is reads.have m p (piece_before reads.pieces c.0 p m before is)
            | inr from ↦ (
                let within : m < length (reads.pieces ++ c.0 ∷ []) = slice_get_within (reads.pieces ++ c.0 ∷ []) m p is in
                let at : m ≡ length reads.pieces = omega (arith, from, within, length_snoc reads.pieces c.0) in
                let one : c.0 ≡ p = last_piece_is reads.pieces c.0 p (subst (λ k. slice_get (reads.pieces ++ c.0 ∷ []) k ≡ Some p) at is) in
                record {
                  picture = picture;
                  is = subst (λ (q : Piece). IsHead q.head picture) one (subst (IsHead c.0.head) c.2 c.1.0.is.is);
                  there = shape_from seen.shapes n (shape.Picture picture) m (omega (arith, at, reads.count_is));
                })
          ];
          next = refl;
        };
        sees = sees;
        last = omega (arith, sees.last);
      }

  -- the head of one more
  head_seen : n < 18446744073709551615 → (picture : Picture) → SeesIt edit n picture r1 old new → SeesHead edit n picture r0 new
  head_seen within picture next = record {
    left = r1;
    shapes = seen.shapes;
    reads = seen.reads;
    within = within;
    next = next.next;
    seen = next.seen;
    sees = next.sees seen.shapes seen.sees seen.last;
  }

  -- and no head
  none_more : SeesNoHead n r1 old new → SeesLast edit n r0 new
  none_more next = record { left = r1; see = subst (SeesPictures edit n r0 r1) (sym next.same) seen; some = next.some; none = inr next.none }

  some_more : n < 18446744073709551615 → (k : ℕ) → k ≡ n → SeesSome edit n r1 old new → SeesOneMore edit k r0 new
  some_more within k is next = subst (λ m. SeesOneMore edit m r0 new) (sym is) (next.0, head_seen within next.0 next.1)

  pub pictures_stopped : n < 18446744073709551615 → (w1 w2 : Option (List ℕ)) (e : RunFault) → PassesPicture (Err e) limit edit n r1 r2 w1 w2 → SeesPicture (Err e) edit n r1 old new → PicturesSee (Err e) edit r0 new
  pictures_stopped within w1 w2 (Frame k) c next = elim next [
    | inl none ↦ inl (subst (λ m. SeesLast edit m r0 new) (sym c.0) (none_more none))
    | inr next ↦ inr (some_more within k c.0 next)
  ]
  pictures_stopped within w1 w2 (Memory k) c next = some_more within k c.0 next
  pictures_stopped within w1 w2 Header c next = subst (Sees edit.steps []) (sym next) (none_before seen.shapes (seen.reads.next ∙ c.0) seen.sees)
    where
      none_before : (shapes : List (ℕ × Shape)) → next_number shapes ≡ 0 → Sees edit.steps shapes old → Sees edit.steps [] old
      none_before [] none sees = sees
      none_before (x ∷ shapes) none sees = absurd (omega (arith, none))
  pictures_stopped within w1 w2 Outside c next = (n, (next.0, head_seen within next.0 next.1, next.2))
  pictures_stopped within w1 w2 Input c next = (
    n,
    elim next [
      | inl same ↦ inl (r1, subst (SeesPictures edit n r0 r1) (sym same) seen)
      | inr next ↦ inr (some_more within n refl next)
    ],
  )
  pictures_stopped within w1 w2 Output c next = (n, some_more within n refl next)

-- the letter of the next picture
pub letter_seen : (edit : Edits) (n : ℕ) (r0 r1 r2 : Option (List ℕ)) (s : Seen) → SeesPictures edit n r0 r1 s → Consumes r1 r2 (80 ∷ []) → SeesPictures edit n r0 (behind_letter r2) s
letter_seen edit n r0 r1 r2 s seen read = record {
  shapes = seen.shapes;
  reads = record {
    pieces = seen.reads.pieces;
    are = seen.reads.are;
    count_is = seen.reads.count_is;
    read = subst (Consumes r0 (behind_letter r2)) (append-nil (pieces_text seen.reads.pieces)) (Consumes-trans r0 r1 (behind_letter r2) _ _ seen.reads.read (none_read r1 r2 read));
    have = seen.reads.have;
    next = seen.reads.next;
  };
  sees = seen.sees;
  last = seen.last;
}

-- another letter is next
pub other_next : BeginsWithLetter → (edit : Edits) (n b : ℕ) → (b ≡ 80 → ⊥) → (r0 r1 r2 : Option (List ℕ)) (s : Seen) → SeesPictures edit n r0 r1 s → 0 < n → Consumes r1 r2 (b ∷ []) → SeesLast edit n r0 s
other_next law edit n b other r0 r1 r2 s seen some read = record { left = r1; see = seen; some = some; none = inr (no_letter law b other r1 r2 read) }

-- ---- the first byte of pictures

module _ (edit : Edits) (old left : Option (List ℕ)) (letter : Consumes old left (80 ∷ [])) where
  reads_behind : (n : ℕ) (rest : Option (List ℕ)) (shapes : List (ℕ × Shape)) → ReadsPictures edit n (behind_letter left) rest shapes → ReadsPictures edit n old rest shapes
  reads_behind n rest shapes see = record {
    pieces = see.pieces;
    are = see.are;
    count_is = see.count_is;
    read = read_behind old left rest (pieces_text see.pieces) letter see.read;
    have = see.have;
    next = see.next;
  }

  sees_behind : (n : ℕ) (rest : Option (List ℕ)) (s : Seen) → SeesPictures edit n (behind_letter left) rest s → SeesPictures edit n old rest s
  sees_behind n rest s see = record { shapes = see.shapes; reads = reads_behind n rest see.shapes see.reads; sees = see.sees; last = see.last }

  head_behind : (n : ℕ) (picture : Picture) (s : Seen) → SeesHead edit n picture (behind_letter left) s → SeesHead edit n picture old s
  head_behind n picture s see = record {
    left = see.left;
    shapes = see.shapes;
    reads = reads_behind n see.left see.shapes see.reads;
    within = see.within;
    next = see.next;
    seen = see.seen;
    sees = see.sees;
  }

  -- what was seen after the letter was seen from the first byte on
  pub behind_letter_seen : (r : Result ℕ RunFault) (s : Seen) → PicturesSee r edit (behind_letter left) s → RunSees r edit old s
  behind_letter_seen (Ok n) s see = inr (see.0, sees_behind n see.0 s see.1, see.2)
  behind_letter_seen (Err (Frame n)) s see = inr (elim see [
    | inl last ↦ inl (record { left = last.left; see = sees_behind n last.left s last.see; some = last.some; none = last.none })
    | inr next ↦ inr (next.0, head_behind n next.0 s next.1)
  ])
  behind_letter_seen (Err (Memory n)) s see = inr (see.0, head_behind n see.0 s see.1)
  behind_letter_seen (Err Header) s see = inr see
  behind_letter_seen (Err Outside) s see = inr (see.0, (see.1.0, head_behind see.0 see.1.0 s see.1.1, see.1.2))
  behind_letter_seen (Err Input) s see = inr (
    see.0,
    elim see.1 [
      | inl many ↦ inl (many.0, sees_behind see.0 many.0 s many.1)
      | inr next ↦ inr (next.0, head_behind see.0 next.0 s next.1)
    ],
  )
  behind_letter_seen (Err Output) s see = inr (see.0, (see.1.0, head_behind see.0 see.1.0 s see.1.1))

-- ---- the line of a video

-- whatever came after it
pub line_seen : (r : Result ℕ RunFault) (edit : Edits) (input : Option (List ℕ)) (s : Seen) → (r ≡ Err Header → ⊥) → SeesVideo edit input s → VideoSees r edit input s
line_seen (Ok n) edit input s other seen = seen
line_seen (Err Header) edit input s other seen = absurd (other refl)
line_seen (Err Outside) edit input s other seen = seen
line_seen (Err (Frame n)) edit input s other seen = seen
line_seen (Err (Memory n)) edit input s other seen = seen
line_seen (Err Input) edit input s other seen = inr seen
line_seen (Err Output) edit input s other seen = seen

pub frames_seen : (r : Result ℕ RunFault) (video : Recipe) (edit : Edits) (input : Option (List ℕ)) (s : Seen) (left new held sent : Option (List ℕ)) → PassesFrames r video left new held sent → SeesVideo edit input s → VideoSees r edit input s
frames_seen r video edit input s left new held sent passes seen = line_seen r edit input s (λ bad. subst (λ (q : Result ℕ RunFault). PassesFrames q video left new held sent) bad passes) seen

-- of a video that has no plan
pub unplanned_seen : (fault : PlanFault) (edit : Edits) (input : Option (List ℕ)) (s : Seen) → SeesVideo edit input s → VideoSees (Err (fault_of_plan 0 fault)) edit input s
unplanned_seen NoPlan edit input s seen = seen
unplanned_seen NoMemory edit input s seen = seen

-- the line was read and seen
pub video_line : (edit : Edits) (line : List ℕ) (format : Format) → All (λ b. b ≢ 10) line → begins_picture (line ++ 10 ∷ []) ≡ false → format_of line ≡ Some format → (input left : Option (List ℕ)) → Consumes input left (line ++ 10 ∷ [])
    → (rate : Option Rate) → rate ≡ rate_of line → (s : Seen) → shape_seen s ≡ Some (shape.Video format rate) → Sees edit.steps ((0, shape.Video format rate) ∷ []) s → SeesVideo edit input s
video_line edit line format one_line kind named input left read rate is s seen sees = record {
  line = line;
  format = format;
  one_line = one_line;
  kind = kind;
  named = named;
  left = left;
  read = read;
  seen = subst (λ r. shape_seen s ≡ Some (shape.Video format r)) is seen;
  sees = subst (λ r. Sees edit.steps ((0, shape.Video format r) ∷ []) s) is sees;
}

-- the frame that was read last is one of those that were counted
pub last_within : (r : Result ℕ RunFault) (edit : Edits) (input : Option (List ℕ)) (s : Seen) → RunSees r edit input s → IfOk r (λ n. last_seen s ≤ n)
last_within (Ok n) edit input s see = elim see [ inl video ↦ omega (arith, video.sees.last) | inr pictures ↦ pictures.1.last ]
last_within (Err e) edit input s see = tt
