-- A stream that was carried: its front, and the pieces after it.
use Rattle.std.proofs.Common.{◌≡◌, ◌≢◌, ℕ, ◌+◌, ◌<◌, Bool, true, false, List, [], ◌∷◌, ◌++◌, Option, Some, None, Result, Ok, Err, refl, sym, ap, ◌∙◌, subst, arith, append_assoc, inr, length, length-append, IfSome, All}
use Rattle.std.specs.Io.KnownBytes.{Consumes, Appends, IsAtEnd}
use Rattle.std.proofs.KnownBytes.{Consumes-nil, Consumes-trans, Appends-nil, Appends-trans, Keeps-refl}
use Rattle.std.proofs.lemmas.List.{append-nil}
use Rattle.std.proofs.lemmas.List.Elements.{recursion_from_All}
use Rattle.devices.specs.Whole.{AppendsBeginning, IsNoLine}
use Rattle.frame_formats.specs.Plan.{Tells}
use Rattle.frame_texts.specs.Format.{format_of}
use Rattle.frame_edits.specs.Edits.{Edits}
use Rattle.frame_formats.specs.Recipe.{Recipe, video_recipe}
use Rattle.frame_texts.specs.declared.header.Format.{Format}
use Rattle.frame_formats.specs.declared.plans.PlanFault.{PlanFault}
use Rattle.frame_formats.specs.declared.plans.PlanFault.TheVariants.{Outside as NoPlan, Memory as NoMemory}
use Rattle.frame_runs.specs.Stream.{Piece, IsPiece, piece_text, pieces_text, made_text, all_made}
use Rattle.frame_runs.specs.Pictures.{PictureHead, PictureWithin, behind_letter}
use Rattle.frame_runs.specs.Passing.{Passed, PassedSome, PassedPart, Anything, AtHead, IsNotEditedNext, PassesFrames, PassesPictures}
use Rattle.frame_runs.specs.Program.{Stream, IsStream, begins_picture, are_pictures, front, made_front, heads_of, Carries, CarriesUpTo, CarriesSome, IsCounted, IsNoMore, BeginsVideo, IsNoStream, StopsOutside, StopsForMemory, Writes, Follows, fault_of_plan}
use Rattle.frame_runs.specs.Program.Stream.{video, pictures}
use Rattle.frame_requests.specs.declared.fault.RunFault.{RunFault}
use Rattle.frame_requests.specs.declared.fault.RunFault.TheVariants.{Header, Outside, Frame, Memory, Input, Output}
use Rattle.frame_runs.proofs.FrameLines.{one_front, begun}
use Rattle.frame_runs.proofs.OneMore.{all_snoc, length_snoc, made_snoc, part_as, passed_as, text_snoc}

pub line_begins : (line rest bytes : List ℕ) → bytes ≡ (line ++ 10 ∷ []) ++ rest → begins_picture bytes ≡ begins_picture (line ++ 10 ∷ [])
line_begins [] rest bytes e = ap begins_picture e
line_begins (b ∷ line) rest bytes e = ap begins_picture e

module _ (edit : Edits) (stream : Stream) (is : IsStream edit stream) (r1 w0 w1 : Option (List ℕ)) (wrote : Appends w0 w1 (made_front stream)) where
  module _ (bytes : List ℕ) (kind : begins_picture bytes ≡ are_pictures stream) (read : Consumes (Some bytes) r1 (front stream)) where
    carries : (count : ℕ) (rest : List ℕ) (new : Option (List ℕ)) (p : Passed (heads_of edit stream) count r1 (Some rest) w1 new) → Carries edit count bytes rest (made_front stream ++ all_made 0 p.pieces)
    carries count rest new p = record {
      stream = stream;
      is = is;
      kind = kind;
      within = p.within;
      pieces = p.pieces;
      are = p.are;
      count_is = p.count_is;
      read = Consumes-trans (Some bytes) r1 (Some rest) (front stream) (pieces_text p.pieces) read p.read ∙ append_assoc (front stream) (pieces_text p.pieces) rest;
      made = refl;
    }

    written : (count : ℕ) (left new : Option (List ℕ)) (p : Passed (heads_of edit stream) count r1 left w1 new) → Appends w0 new (made_front stream ++ all_made 0 p.pieces)
    written count left new p = Appends-trans w0 w1 new (made_front stream) _ wrote p.written

    lost : {A : Type 0} (count : ℕ) (new : Option (List ℕ)) (p : Passed (heads_of edit stream) count r1 None w1 new) → A
    lost count new p = absurd (Consumes-trans (Some bytes) r1 None (front stream) _ read p.read)

    pub some : (ends : ℕ → List ℕ → Type 0) (count : ℕ) (left new : Option (List ℕ)) (p : Passed (heads_of edit stream) count r1 left w1 new) → IfSome left (ends count) → CarriesUpTo edit ends count bytes w0 new
    some ends count None new p end = lost count new p
    some ends count (Some rest) new p end = record {
      rest = rest;
      text = made_front stream ++ all_made 0 p.pieces;
      carries = carries count rest new p;
      ends = end;
      written = written count (Some rest) new p;
    }

    pub at_end : (n : ℕ) (left new : Option (List ℕ)) (p : Passed (heads_of edit stream) n r1 left w1 new) → IsAtEnd left → IsCounted stream n → (text : List ℕ) × (c : Carries edit n bytes [] text) × IsCounted c.stream n × Appends w0 new text
    unfolding carries
    at_end n None new p end counted = lost n new p
    at_end n (Some rest) new p end counted =
        let q : Passed (heads_of edit stream) n r1 (Some []) w1 new = subst (λ (l : List ℕ). Passed (heads_of edit stream) n r1 (Some l) w1 new) end p in
        (made_front stream ++ all_made 0 q.pieces, carries n [] new q, counted, written n (Some []) new q)

    pub up_to : (n : ℕ) (left new : Option (List ℕ)) (p : Passed (heads_of edit stream) n r1 left w1 new) → IfSome left (IsNoMore edit stream n)
        → (rest : List ℕ) × (text : List ℕ) × (c : Carries edit n bytes rest text) × IsNoMore edit c.stream n rest × Appends w0 new text
    unfolding carries
    up_to n None new p none = lost n new p
    up_to n (Some rest) new p none = (rest, made_front stream ++ all_made 0 p.pieces, carries n rest new p, none, written n (Some rest) new p)

    part_read : (count : ℕ) → count < 18446744073709551615 → (left held after new : Option (List ℕ)) (x : Piece) (p : Passed (heads_of edit stream) count r1 left w1 held) → IsPiece (heads_of edit stream) x → Consumes left after (piece_text x)
        → AppendsBeginning held new (made_text count x) → (n : ℕ) × (rest : List ℕ) × (text : List ℕ) × Carries edit n bytes rest text × AppendsBeginning w0 new text
    part_read count within left held None new x p piece more begins = absurd (Consumes-trans (Some bytes) left None _ _ (Consumes-trans (Some bytes) r1 left (front stream) _ read p.read) more)
    part_read count within left held (Some rest) new x p piece more begins =
        let pieces : List Piece = p.pieces ++ x ∷ [] in
        let joined : (made_front stream ++ all_made 0 p.pieces) ++ made_text count x ≡ made_front stream ++ all_made 0 pieces =
        append_assoc (made_front stream) (all_made 0 p.pieces) (made_text count x) ∙ ap (λ l. made_front stream ++ l) (sym (made_snoc 0 count p.pieces x (omega (arith, p.count_is)))) in (
          count + 1,
          rest,
          made_front stream ++ all_made 0 pieces,
          record {
            stream = stream;
            is = is;
            kind = kind;
            within = omega (arith, within);
            pieces = pieces;
            are = all_snoc (IsPiece (heads_of edit stream)) p.pieces x p.are piece;
            count_is = length_snoc p.pieces x ∙ ap (λ k. k + 1) p.count_is;
            read = Consumes-trans (Some bytes) r1 (Some rest) (front stream) (pieces_text pieces) read
                (subst (Consumes r1 (Some rest)) (text_snoc p.pieces x) (Consumes-trans r1 left (Some rest) _ _ p.read more)) ∙ append_assoc (front stream) (pieces_text pieces) rest;
            made = refl;
          },
          subst (AppendsBeginning w0 new) joined (begun w0 held new _ _ (written count left held p) begins),
        )

    pub part_of : (new : Option (List ℕ)) (p : PassedPart (heads_of edit stream) r1 w1 new) → (n : ℕ) × (rest : List ℕ) × (text : List ℕ) × Carries edit n bytes rest text × AppendsBeginning w0 new text
    part_of new p = part_read p.count p.within p.left p.held p.after new p.piece p.passed p.is p.read p.written

-- ---- by the answer

module _ (edit : Edits) (line : List ℕ) (recipe : Recipe) (is : IsStream edit (video line recipe)) (kind : begins_picture (line ++ 10 ∷ []) ≡ false) (r1 w0 w1 : Option (List ℕ)) (wrote : Appends w0 w1 (recipe.head)) where
  is_video : (bytes : List ℕ) → Consumes (Some bytes) r1 (line ++ 10 ∷ []) → begins_picture bytes ≡ false
  is_video bytes read = video_kind bytes r1 read
    where
      video_kind : (bytes : List ℕ) (left : Option (List ℕ)) → Consumes (Some bytes) left (line ++ 10 ∷ []) → begins_picture bytes ≡ false
      video_kind bytes None read = absurd read
      video_kind bytes (Some rest) read = line_begins line rest bytes read ∙ kind

  pub frames_written : (r : Result ℕ RunFault) (input left new : Option (List ℕ)) → Consumes input r1 (line ++ 10 ∷ []) → PassesFrames r recipe r1 left w1 new → Writes r edit input w0 new
  frames_written (Ok n) None left new read passes = tt
  frames_written (Ok n) (Some bytes) left new read passes = at_end edit (video line recipe) is r1 w0 w1 wrote bytes (is_video bytes read) read n left new passes.1 passes.2 passes.0
  frames_written (Err (Frame n)) None left new read passes = tt
  frames_written (Err (Frame n)) (Some bytes) left new read passes = up_to edit (video line recipe) is r1 w0 w1 wrote bytes (is_video bytes read) read n passes.left new passes.passed passes.ends
  frames_written (Err Input) None left new read passes = inr tt
  frames_written (Err Input) (Some bytes) left new read passes = inr (passes.count, some edit (video line recipe) is r1 w0 w1 wrote bytes (is_video bytes read) read Anything passes.count passes.up_to.left new passes.up_to.passed passes.up_to.ends)
  frames_written (Err Output) None left new read passes = tt
  frames_written (Err Output) (Some bytes) left new read passes = part_of edit (video line recipe) is r1 w0 w1 wrote bytes (is_video bytes read) read new passes
  frames_written _ input left new read passes = absurd passes

module _ (limit : ℕ) (edit : Edits) (bytes : List ℕ) (kind : begins_picture bytes ≡ true) (old new : Option (List ℕ)) where
  as_passed : (n : ℕ) (left : Option (List ℕ)) → Passed (PictureWithin limit edit) n (Some bytes) left old new → Passed (PictureHead edit) n (Some bytes) left old new
  as_passed n left p = passed_as (PictureWithin limit edit) (PictureHead edit) (λ h r is. is.is) n (Some bytes) left old new p

  stops : (ends : ℕ → List ℕ → Type 0) → PassedSome (PictureWithin limit edit) ends (Some bytes) old new → CarriesSome edit ends bytes old new
  stops ends p = (p.count, some edit pictures tt (Some bytes) old old (Appends-nil old) bytes kind (Consumes-nil (Some bytes)) ends p.count p.up_to.left new (as_passed p.count p.up_to.left p.up_to.passed) p.up_to.ends)

  pub pictures_written : (r : Result ℕ RunFault) (left : Option (List ℕ)) → PassesPictures r limit edit (Some bytes) left old new → Writes r edit (Some bytes) old new
  pictures_written (Ok n) left passes = at_end edit pictures tt (Some bytes) old old (Appends-nil old) bytes kind (Consumes-nil (Some bytes)) n left new (as_passed n left passes.0) passes.1 tt
  pictures_written (Err (Frame n)) left passes = up_to edit pictures tt (Some bytes) old old (Appends-nil old) bytes kind (Consumes-nil (Some bytes)) n passes.left new (as_passed n passes.left passes.passed) passes.ends
  pictures_written (Err Input) left passes = inr (stops Anything passes)
  pictures_written (Err Output) left passes = part_of edit pictures tt (Some bytes) old old (Appends-nil old) bytes kind (Consumes-nil (Some bytes)) new (part_as (PictureWithin limit edit) (PictureHead edit) (λ h r is. is.is) (Some bytes) old new passes)
  pictures_written (Err Header) left passes = (passes.0, subst (λ (b : Bool). IsNoStream b bytes) (sym kind) passes.1)
  pictures_written (Err Outside) left passes = subst (λ (b : Bool). StopsOutside b edit bytes old new) (sym kind) (stops (IsNotEditedNext edit) passes)
  pictures_written (Err (Memory n)) left passes =
      subst (λ (b : Bool). StopsForMemory b n edit bytes old new) (sym kind)
      (some edit pictures tt (Some bytes) old old (Appends-nil old) bytes kind (Consumes-nil (Some bytes)) AtHead n passes.left new (as_passed n passes.left passes.passed) passes.ends)

-- ---- before the first frame

-- a beginning of the line was written
pub begun_line : (edit : Edits) (line : List ℕ) (recipe : Recipe) (is : IsStream edit (video line recipe)) (kind : begins_picture (line ++ 10 ∷ []) ≡ false)
    → (input left old new : Option (List ℕ)) → Consumes input left (line ++ 10 ∷ []) → AppendsBeginning old new (recipe.head) → Writes (Err Output) edit input old new
begun_line edit line recipe is kind None left old new read begins = tt
begun_line edit line recipe is kind (Some bytes) None old new read begins = absurd read
begun_line edit line recipe is kind (Some bytes) (Some rest) old new read begins = (
  0,
  rest,
  (recipe.head) ++ [],
  record {
    stream = video line recipe;
    is = is;
    kind = line_begins line rest bytes read ∙ kind;
    within = omega arith;
    pieces = [];
    are = tt;
    count_is = refl;
    read = read;
    made = refl;
  },
  subst (AppendsBeginning old new) (sym (append-nil (recipe.head))) begins,
)

joined : (line rest : List ℕ) → (line ++ 10 ∷ []) ++ rest ≡ line ++ 10 ∷ rest
joined line rest = append_assoc line (10 ∷ []) rest

no_video : (bytes : List ℕ) (old : Option (List ℕ)) (edit : Edits) → begins_picture bytes ≡ false → IsNoStream false bytes → Writes (Err Header) edit (Some bytes) old old
no_video bytes old edit kind none = (Keeps-refl old, subst (λ (b : Bool). IsNoStream b bytes) (sym kind) none)

-- no line is at the front
pub no_line : (edit : Edits) (input old : Option (List ℕ)) → IfSome input (λ bytes. begins_picture bytes ≡ false) → IfSome input (IsNoLine 256) → Writes (Err Header) edit input old old
no_line edit None old kind none = (Keeps-refl old, tt)
no_line edit (Some bytes) old kind none = no_video bytes old edit kind (λ line more one short is. absurd (none line more short is))

-- a line of no format
pub no_format : (edit : Edits) (line : List ℕ) (left old : Option (List ℕ)) → All (λ b. b ≢ 10) line → begins_picture (line ++ 10 ∷ []) ≡ false → format_of line ≡ None → Follows (Err Header) edit (line ++ 10 ∷ []) left old old
no_format edit line left old one kind none None read = (Keeps-refl old, tt)
no_format edit line None old one kind none (Some bytes) read = absurd read
no_format edit line (Some rest) old one kind none (Some bytes) read = no_video bytes old edit (line_begins line rest bytes read ∙ kind) (λ other more no short is.
    let same : other ≡ line = (one_front other line more rest (recursion_from_All _ other no) (recursion_from_All _ line one) (sym is ∙ read ∙ joined line rest)).0 in
    ap format_of same ∙ none)

begins_line : (line : List ℕ) (format : Format) (rest bytes : List ℕ) → All (λ b. b ≢ 10) line → length line < 256 → bytes ≡ (line ++ 10 ∷ []) ++ rest → format_of line ≡ Some format → BeginsVideo bytes
begins_line line format rest bytes one short read named = record { line = line; more = rest; format = format; one_line = one; short = short; read = read ∙ joined line rest; named = named }

-- a line of a format that the edit doesn't suit, or no memory was found
pub not_planned : (e : PlanFault) (edit : Edits) (line : List ℕ) (format : Format) (left old : Option (List ℕ)) → All (λ b. b ≢ 10) line → length line < 256 → begins_picture (line ++ 10 ∷ []) ≡ false → format_of line ≡ Some format → Tells (video_recipe edit line ≡ None) e
    → Follows (Err (fault_of_plan 0 e)) edit (line ++ 10 ∷ []) left old old
unfolding begins_line
not_planned NoPlan edit line format (Some rest) old one short kind named tells (Some bytes) read = subst (λ (b : Bool). StopsOutside b edit bytes old old) (sym (line_begins line rest bytes read ∙ kind))
    (Keeps-refl old, record { begins = begins_line line format rest bytes one short read named; none = tells })
not_planned NoMemory edit line format (Some rest) old one short kind named tells (Some bytes) read = subst (λ (b : Bool). StopsForMemory b 0 edit bytes old old) (sym (line_begins line rest bytes read ∙ kind)) (refl, begins_line line format rest bytes one short read named, Keeps-refl old)
not_planned _ edit line format left old one short kind named tells None read = tt
not_planned _ edit line format None old one short kind named tells _ read = absurd read

-- ---- the first byte

-- a run over pictures, of which the first letter was read
pub behind_first : (limit : ℕ) (edit : Edits) (r : Result ℕ RunFault) (input left end old new : Option (List ℕ)) → Consumes input left (80 ∷ []) → PassesPictures r limit edit (behind_letter left) end old new → Writes r edit input old new
behind_first limit edit (Err Input) None left end old new read passes = inr tt
behind_first limit edit (Err Header) None left end old new read passes = (passes.0, tt)
behind_first limit edit _ None left end old new read passes = tt
behind_first limit edit r (Some bytes) None end old new read passes = absurd read
behind_first limit edit r (Some bytes) (Some rest) end old new read passes = pictures_written limit edit bytes (ap begins_picture read) old new r end (subst (λ l. PassesPictures r limit edit (Some l) end old new) (sym read) passes)

-- a run over a video, of which the first byte was read
pub no_first : (edit : Edits) (input left old : Option (List ℕ)) → Consumes input left [] → IsAtEnd left → Writes (Err Header) edit input old old
no_first edit None left old read end = (Keeps-refl old, tt)
no_first edit (Some bytes) None old read end = absurd read
no_first edit (Some bytes) (Some rest) old read end =
    let none : bytes ≡ [] = read ∙ end in
    no_video bytes old edit (ap begins_picture none) (λ line more one short is. absurd (omega (arith, ap length none, ap length is, length-append line (10 ∷ more))))
