-- Whatever was written is of frames or pictures whose buffers are within the limit.
use Rattle.std.proofs.Common.{◌≡◌, ℕ, ◌+◌, ◌<◌, ◌≤◌, Bool, true, false, List, [], ◌∷◌, ◌++◌, Option, Some, None, Result, Ok, Err, length, refl, sym, ap, ◌∙◌, subst, arith, inl, inr}
use Rattle.std.specs.List.{AllByRecursion}
use Rattle.std.specs.Io.KnownBytes.{Consumes, Appends}
use Rattle.std.proofs.KnownBytes.{Consumes-trans, Keeps-refl}
use Rattle.std.proofs.Math.Seq.{take-length}
use Rattle.devices.specs.Whole.{AppendsBeginning}
use Rattle.frame_edits.specs.Edits.{Edits}
use Rattle.frame_formats.specs.Recipe.{Recipe, buffers_len}
use Rattle.frame_formats.specs.declared.plans.PlanFault.{PlanFault}
use Rattle.frame_formats.specs.declared.plans.PlanFault.TheVariants.{Outside as NoPlan, Memory as NoMemory}
use Rattle.frame_requests.specs.declared.fault.RunFault.{RunFault}
use Rattle.frame_requests.specs.declared.fault.RunFault.TheVariants.{Header, Outside, Frame, Memory, Input, Output}
use Rattle.frame_runs.specs.Limit.{AreWithin, KeepsLimit, WritesWithin}
use Rattle.frame_runs.specs.Passing.{Passed, PassesPictures}
use Rattle.frame_runs.specs.Pictures.{PictureHead, PictureWithin, behind_letter}
use Rattle.frame_runs.specs.Program.{Stream, IsStream, begins_picture, Carries, StopsOutside, StopsForMemory, Writes, fault_of_plan}
use Rattle.frame_runs.specs.Program.Stream.{video, pictures}
use Rattle.frame_runs.specs.Stream.{Piece, IsPiece, piece_text, pieces_text, made_text, all_made}
use Rattle.frame_runs.proofs.Carrying.{line_begins}
use Rattle.frame_runs.proofs.FrameLines.{begun}
use Rattle.frame_runs.proofs.Hiding.{one_stream}
use Rattle.frame_runs.proofs.OneMore.{all_as, all_snoc, length_snoc, text_snoc, made_snoc}

-- what was written whole is a beginning
begun_whole : (old new : Option (List ℕ)) (text : List ℕ) → Appends old new text → AppendsBeginning old new text
begun_whole old new text written = (length text, omega arith, subst (Appends old new) (sym (take-length text)) written)

-- ---- pictures

module _ (limit : ℕ) (edit : Edits) where
  all_within : (ps : List Piece) → AllByRecursion (IsPiece (PictureWithin limit edit)) ps → AllByRecursion (λ (p : Piece). buffers_len p.recipe ≤ limit) ps
  all_within [] are = tt
  all_within (p ∷ ps) are = (are.0.0.within, all_within ps are.1)

  module _ (bytes : List ℕ) (kind : begins_picture bytes ≡ true) (old : Option (List ℕ)) where
    carried : (n : ℕ) (rest : List ℕ) (new : Option (List ℕ)) (p : Passed (PictureWithin limit edit) n (Some bytes) (Some rest) old new) → WritesWithin limit edit n bytes old new
    carried n rest new p = record {
      rest = rest;
      text = all_made 0 p.pieces;
      carries = record {
        stream = pictures;
        is = tt;
        kind = kind;
        within = p.within;
        pieces = p.pieces;
        are = all_as (PictureWithin limit edit) (PictureHead edit) (λ h r is. is.is) p.pieces p.are;
        count_is = p.count_is;
        read = p.read;
        made = refl;
      };
      within = all_within p.pieces p.are;
      written = begun_whole old new (all_made 0 p.pieces) p.written;
    }

    passed : (n : ℕ) (left new : Option (List ℕ)) → Passed (PictureWithin limit edit) n (Some bytes) left old new → WritesWithin limit edit n bytes old new
    passed n None new p = absurd p.read
    passed n (Some rest) new p = carried n rest new p

    -- and a beginning of the next
    begun_next : (n : ℕ) → n < 18446744073709551615 → (left held after new : Option (List ℕ)) (x : Piece) → Passed (PictureWithin limit edit) n (Some bytes) left old held → IsPiece (PictureWithin limit edit) x → Consumes left after (piece_text x)
        → AppendsBeginning held new (made_text n x) → WritesWithin limit edit (n + 1) bytes old new
    begun_next n within left held None new x p is read begins = absurd (Consumes-trans (Some bytes) left None _ _ p.read read)
    begun_next n within left held (Some rest) new x p is read begins =
        let pieces : List Piece = p.pieces ++ x ∷ [] in
        let are : AllByRecursion (IsPiece (PictureWithin limit edit)) pieces = all_snoc (IsPiece (PictureWithin limit edit)) p.pieces x p.are is in
        record {
          rest = rest;
          text = all_made 0 pieces;
          carries = record {
            stream = pictures;
            is = tt;
            kind = kind;
            within = omega (arith, within);
            pieces = pieces;
            are = all_as (PictureWithin limit edit) (PictureHead edit) (λ h r is. is.is) pieces are;
            count_is = length_snoc p.pieces x ∙ ap (λ k. k + 1) p.count_is;
            read = subst (Consumes (Some bytes) (Some rest)) (text_snoc p.pieces x) (Consumes-trans (Some bytes) left (Some rest) _ _ p.read read);
            made = refl;
          };
          within = all_within pieces are;
          written = subst (AppendsBeginning old new) (sym (made_snoc 0 n p.pieces x (omega (arith, p.count_is)))) (begun old held new _ _ p.written begins);
        }

    pictures_within : (new : Option (List ℕ)) (r : Result ℕ RunFault) (left : Option (List ℕ)) → PassesPictures r limit edit (Some bytes) left old new → KeepsLimit r limit edit (Some bytes) old new
    pictures_within new (Ok n) left passes = passed n left new passes.0
    pictures_within new (Err (Frame n)) left passes = passed n passes.left new passes.passed
    pictures_within new (Err Output) left passes = (passes.count + 1, begun_next passes.count passes.within passes.left passes.held passes.after new passes.piece passes.passed passes.is passes.read passes.written)
    pictures_within new (Err Header) left passes = inl passes.0
    pictures_within new (Err Outside) left passes = inr (passes.count, passed passes.count passes.up_to.left new passes.up_to.passed)
    pictures_within new (Err Input) left passes = inr (passes.count, passed passes.count passes.up_to.left new passes.up_to.passed)
    pictures_within new (Err (Memory n)) left passes = inr (n, passed n passes.left new passes.passed)

  -- of an input that isn't known
  unknown : (r : Result ℕ RunFault) (old new : Option (List ℕ)) → KeepsLimit r limit edit None old new
  unknown (Ok n) old new = tt
  unknown (Err (Frame n)) old new = tt
  unknown (Err Output) old new = tt
  unknown (Err Header) old new = inr tt
  unknown (Err Outside) old new = inr tt
  unknown (Err Input) old new = inr tt
  unknown (Err (Memory n)) old new = inr tt

  -- a run over pictures, of which the first letter was read
  pub within_first : (r : Result ℕ RunFault) (input left end old new : Option (List ℕ)) → Consumes input left (80 ∷ []) → PassesPictures r limit edit (behind_letter left) end old new → KeepsLimit r limit edit input old new
  within_first r None left end old new read passes = unknown r old new
  within_first r (Some bytes) None end old new read passes = absurd read
  within_first r (Some bytes) (Some rest) end old new read passes = pictures_within bytes (ap begins_picture read) old new r end (subst (λ l. PassesPictures r limit edit (Some l) end old new) (sym read) passes)

-- ---- a video

-- nothing was written where there is no plan
pub unplanned : (limit : ℕ) (edit : Edits) (fault : PlanFault) (input old : Option (List ℕ)) → KeepsLimit (Err (fault_of_plan 0 fault)) limit edit input old old
unplanned limit edit NoPlan input old = inl (Keeps-refl old)
unplanned limit edit NoMemory input old = inl (Keeps-refl old)

module _ (limit : ℕ) (edit : Edits) (line : List ℕ) (recipe : Recipe) (is : IsStream edit (video line recipe)) (small : buffers_len recipe ≤ limit) (old new : Option (List ℕ)) where
  module _ (bytes more : List ℕ) (kind : begins_picture bytes ≡ false) (read : bytes ≡ (line ++ 10 ∷ []) ++ more) where
    of_video : (n : ℕ) (rest text : List ℕ) → Carries edit n bytes rest text → AppendsBeginning old new text → WritesWithin limit edit n bytes old new
    of_video n rest text c begins = record {
      rest = rest;
      text = text;
      carries = c;
      within = subst (λ (s : Stream). AreWithin limit s c.pieces) (one_stream edit (video line recipe) c.stream bytes more (pieces_text c.pieces ++ rest) is c.is kind c.kind read c.read).0 small;
      written = begins;
    }

    video_known : (r : Result ℕ RunFault) → Writes r edit (Some bytes) old new → KeepsLimit r limit edit (Some bytes) old new
    video_known (Ok n) w = of_video n [] w.0 w.1 (begun_whole old new w.0 w.3)
    video_known (Err (Frame n)) w = of_video n w.0 w.1 w.2 (begun_whole old new w.1 w.4)
    video_known (Err Output) w = (w.0, of_video w.0 w.1 w.2 w.3 w.4)
    video_known (Err Header) w = inl w.0
    video_known (Err Outside) w = inl (subst (λ (b : Bool). StopsOutside b edit bytes old new) kind w).0
    video_known (Err Input) w = elim w [ inl keeps ↦ inl keeps | inr s ↦ inr (s.0, of_video s.0 s.1.rest s.1.text s.1.carries (begun_whole old new s.1.text s.1.written)) ]
    video_known (Err (Memory n)) w = inl (subst (λ (b : Bool). StopsForMemory b n edit bytes old new) kind w).2

  -- whatever became of the run
  pub video_within : begins_picture (line ++ 10 ∷ []) ≡ false → (r : Result ℕ RunFault) (input left : Option (List ℕ)) → Consumes input left (line ++ 10 ∷ []) → Writes r edit input old new → KeepsLimit r limit edit input old new
  video_within kind r None left read w = unknown limit edit r old new
  video_within kind r (Some bytes) None read w = absurd read
  video_within kind r (Some bytes) (Some more) read w = video_known bytes more (line_begins line more bytes read ∙ kind) read r w
