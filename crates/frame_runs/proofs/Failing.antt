-- Where the reader fails, what was read is an input of its own, and what was written is right for it.
use Rattle.std.proofs.Common.{◌≡◌, ◌≢◌, ℕ, ◌+◌, ◌<◌, zero, suc, true, false, List, [], ◌∷◌, ◌++◌, Option, Some, None, Result, Ok, Err, length, take, refl, sym, ap, ◌∙◌, arith, append-nil, inl, inr}
use Rattle.std.specs.List.{AllByRecursion}
use Rattle.std.specs.Io.KnownBytes.{Consumes, Appends, Keeps}
use Rattle.std.proofs.KnownBytes.{Consumes-kept, Consumes-nil, Consumes-trans}
use Rattle.std.proofs.lemmas.List.Elements.{recursion_from_All}
use Rattle.devices.specs.Whole.{GaveNoFeed}
use Rattle.frame_edits.specs.Edits.{Edits}
use Rattle.frame_formats.specs.Recipe.{Recipe}
use Rattle.frame_formats.specs.declared.plans.PlanFault.{PlanFault}
use Rattle.frame_formats.specs.declared.plans.PlanFault.TheVariants.{Outside as NoPlan, Memory as NoMemory}
use Rattle.frame_texts.specs.Picture.{ApartHeads, BeginsWithLetter}
use Rattle.frame_runs.specs.Failing.{EndsAlone, FramesFail, InputFails, PicturesFail}
use Rattle.frame_runs.specs.Passing.{CellsCut, LineCut, LineRead, Passed, PassesCells, PassesPicture, PassesPictures}
use Rattle.frame_runs.specs.Pictures.{IsNoPicture, PictureHead, PictureWithin, behind_letter}
use Rattle.frame_runs.specs.Program.{IsStream, begins_picture, fault_of_plan}
use Rattle.frame_runs.specs.Program.Stream.{video}
use Rattle.frame_runs.specs.Stream.{Piece, IsPiece, pieces_text}
use Rattle.frame_runs.specs.Video.{FrameHead, with_head}
use Rattle.frame_requests.specs.declared.fault.RunFault.{RunFault}
use Rattle.frame_requests.specs.declared.fault.RunFault.TheVariants.{Header, Frame, Input}
use Rattle.frame_runs.proofs.Carrying.{frames_written, no_first, no_line, pictures_written}
use Rattle.frame_runs.proofs.FrameLines.{no_feed}
use Rattle.frame_runs.proofs.Pieces.{pictures_readable, some_text}
use Rattle.frame_runs.proofs.Rounds.{frame_stopped, no_frame, picture_stopped, read_behind}

-- the same pieces, before these bytes alone
alone : (heads : List ℕ → Recipe → Type 0) (n : ℕ) (r0 r1 w0 w1 : Option (List ℕ)) (p : Passed heads n r0 r1 w0 w1) (rest : List ℕ) → Passed heads n (Some (pieces_text p.pieces ++ rest)) (Some rest) w0 w1
alone heads n r0 r1 w0 w1 p rest = record { within = p.within; pieces = p.pieces; are = p.are; count_is = p.count_is; read = refl; written = p.written }

-- and before none
alone_last : (heads : List ℕ → Recipe → Type 0) (n : ℕ) (r0 r1 w0 w1 : Option (List ℕ)) (p : Passed heads n r0 r1 w0 w1) (rest : List ℕ) → rest ≡ [] → Passed heads n (Some (pieces_text p.pieces ++ rest)) (Some []) w0 w1
alone_last heads n r0 r1 w0 w1 p rest none = record { within = p.within; pieces = p.pieces; are = p.are; count_is = p.count_is; read = ap (λ l. pieces_text p.pieces ++ l) none; written = p.written }

some_behind : (xs ys : List ℕ) → ys ≢ [] → xs ++ ys ≢ []
some_behind [] ys some = some
some_behind (x ∷ xs) ys some = λ none. absurd (let bad : x ∷ (xs ++ ys) ≡ [] = none in cc)

-- ---- frames

-- before the line of a frame, or within it
pub line_failed : (recipe : Recipe) (n : ℕ) → n < 18446744073709551615 → (r0 r1 r2 w0 w1 : Option (List ℕ)) → Passed (FrameHead recipe) n r0 r1 w0 w1 → LineCut r1 r2 → FramesFail (Err Input) recipe r0 r2 w0 w1
line_failed recipe n within r0 r1 r2 w0 w1 p gave = record {
  bytes = pieces_text p.pieces ++ gave.bytes;
  read = Consumes-trans r0 r1 r2 (pieces_text p.pieces) gave.bytes p.read gave.read;
  are = elim gave.are [
    | inl none ↦ (Ok n, refl, (within, alone_last (FrameHead recipe) n r0 r1 w0 w1 p gave.bytes none, refl))
    | inr never ↦ (Err (Frame n), refl, no_frame recipe n (Some (pieces_text p.pieces ++ gave.bytes)) (Some gave.bytes) w0 w1 (alone (FrameHead recipe) n r0 r1 w0 w1 p gave.bytes) never)
  ];
}

-- within its cells
pub frame_failed : (recipe : Recipe) (n len : ℕ) → n < 18446744073709551615 → (line : List ℕ) (r0 r1 r2 r3 w0 w1 w2 : Option (List ℕ)) → Passed (FrameHead recipe) n r0 r1 w0 w1 → LineRead len line r1 r2
    → (e : RunFault) → PassesCells (Err e) (with_head (take len line) recipe) n r2 r3 w1 w2 → FramesFail (Err e) recipe r0 r3 w0 w2
frame_failed recipe n len within line r0 r1 r2 r3 w0 w1 w2 p found Input (gave, same) =
    let rest = take len line ++ gave.bytes in
    let here : LineRead len line (Some rest) (Some gave.bytes) = record { parameters = found.parameters; are = found.are; within = found.within; line_is = found.line_is; read = refl } in
    let cut : CellsCut recipe.size (Some gave.bytes) (Some []) = record { cells = gave.bytes; short = gave.are; read = sym (append-nil gave.bytes); end = refl } in
    record {
      bytes = pieces_text p.pieces ++ rest;
      read = Consumes-trans r0 r1 r3 (pieces_text p.pieces) rest p.read (Consumes-trans r1 r2 r3 (take len line) gave.bytes found.read gave.read);
      are = (Err (Frame n), refl, frame_stopped recipe n len within line (Some (pieces_text p.pieces ++ rest)) (Some rest) (Some gave.bytes) (Some []) w0 w1 w2 (alone (FrameHead recipe) n r0 r1 w0 w1 p rest) here (Frame n) (refl, cut, same));
    }
frame_failed recipe n len within line r0 r1 r2 r3 w0 w1 w2 p found _ c = tt

-- ---- a video

-- after its line
pub frames_failed : (edit : Edits) (line : List ℕ) (recipe : Recipe) (is : IsStream edit (video line recipe)) (kind : begins_picture (line ++ 10 ∷ []) ≡ false) (r1 w0 w1 : Option (List ℕ)) → Appends w0 w1 (recipe.head)
    → (r : Result ℕ RunFault) (left new : Option (List ℕ)) → FramesFail r recipe r1 left w1 new → (input : Option (List ℕ)) → Consumes input r1 (line ++ 10 ∷ []) → InputFails r edit input left w0 new
frames_failed edit line recipe is kind r1 w0 w1 wrote (Err Input) left new gave None read = tt
frames_failed edit line recipe is kind r1 w0 w1 wrote (Err Input) left new gave (Some all) read = record {
  bytes = (line ++ 10 ∷ []) ++ gave.bytes;
  read = Consumes-trans (Some all) r1 left (line ++ 10 ∷ []) gave.bytes read gave.read;
  are = (gave.are.0, gave.are.1, frames_written edit line recipe is kind (Some gave.bytes) w0 w1 wrote gave.are.0 (Some ((line ++ 10 ∷ []) ++ gave.bytes)) (Some []) new refl gave.are.2);
}
frames_failed edit line recipe is kind r1 w0 w1 wrote _ left new gave input read = tt

-- within its line
pub first_line_failed : (edit : Edits) (first size : ℕ) → (first ≡ 80 → ⊥) → (first ≡ 10 → ⊥) → (left new old : Option (List ℕ)) → GaveNoFeed size left new → (input : Option (List ℕ)) → Consumes input left (first ∷ []) → InputFails (Err Input) edit input new old old
first_line_failed edit first size other feed left new old gave None read = tt
first_line_failed edit first size other feed left new old gave (Some all) read = record {
  bytes = first ∷ gave.bytes;
  read = Consumes-trans (Some all) left new (first ∷ []) gave.bytes read gave.read;
  are = (Err Header, refl, no_line edit (Some (first ∷ gave.bytes)) old other_letter (λ line more short is. no_feed (first ∷ gave.bytes) line more (feed, recursion_from_All _ gave.bytes gave.are.1) is));
}
  where
    other_letter : begins_picture (first ∷ gave.bytes) ≡ false
    other_letter = grind (arith, other)

-- no plan for it
pub unplanned_fails : (fault : PlanFault) (edit : Edits) (input left old new : Option (List ℕ)) → InputFails (Err (fault_of_plan 0 fault)) edit input left old new
unplanned_fails NoPlan edit input left old new = tt
unplanned_fails NoMemory edit input left old new = tt

-- ---- pictures

-- within one
pub picture_failed : (limit : ℕ) (edit : Edits) (n : ℕ) (r0 r1 r2 w0 w1 w2 : Option (List ℕ)) → n < 18446744073709551615 → Passed (PictureWithin limit edit) n r0 r1 w0 w1
    → (e : RunFault) → PassesPicture (Err e) limit edit n r1 r2 w1 w2 → PicturesFail (Err e) limit edit r0 r2 w0 w2
picture_failed limit edit n r0 r1 r2 w0 w1 w2 within p Input (gave, same) = record {
  bytes = pieces_text p.pieces ++ gave.bytes;
  read = Consumes-trans r0 r1 r2 (pieces_text p.pieces) gave.bytes p.read gave.read;
  are = (
    some_behind (pieces_text p.pieces) gave.bytes gave.are.0,
    elim gave.are.1 [
      | inl none ↦ no_head n refl none
      | inr cut ↦ (Err (Frame n), refl, stopped (Frame n) (refl, record { some = gave.are.0; none = inr (inr cut) }, same))
    ],
  );
}
  where
    stopped : (e : RunFault) → PassesPicture (Err e) limit edit n (Some gave.bytes) (Some []) w1 w2 → PassesPictures (Err e) limit edit (Some (pieces_text p.pieces ++ gave.bytes)) (Some []) w0 w2
    stopped e c = picture_stopped limit edit n (Some (pieces_text p.pieces ++ gave.bytes)) (Some gave.bytes) (Some []) w0 w1 w2 within (alone (PictureWithin limit edit) n r0 r1 w0 w1 p gave.bytes) e c

    no_head : (k : ℕ) → k ≡ n → IsNoPicture gave.bytes → EndsAlone (λ answer. PassesPictures answer limit edit (Some (pieces_text p.pieces ++ gave.bytes)) (Some []) w0 w2)
    no_head zero is none = (Err Header, refl, stopped Header (sym is, none, same))
    no_head (suc k) is none = (Err (Frame n), refl, stopped (Frame n) (refl, record { some = gave.are.0; none = inr (inl (omega (arith, is), none)) }, same))
picture_failed limit edit n r0 r1 r2 w0 w1 w2 within p _ c = tt

-- after some
pub next_failed : ApartHeads → BeginsWithLetter → (limit : ℕ) (edit : Edits) (n : ℕ) (r0 r1 r2 w0 w1 : Option (List ℕ)) → Passed (PictureWithin limit edit) (n + 1) r0 r1 w0 w1 → Keeps r1 r2 → PicturesFail (Err Input) limit edit r0 r2 w0 w1
next_failed apart letter limit edit n r0 r1 r2 w0 w1 p kept = record {
  bytes = pieces_text p.pieces ++ [];
  read = Consumes-trans r0 r1 r2 (pieces_text p.pieces) [] p.read (Consumes-kept r1 r1 r2 [] (Consumes-nil r1) kept);
  are = (some p.pieces p.are (omega (arith, p.count_is)), (Ok (n + 1), refl, (alone (PictureWithin limit edit) (n + 1) r0 r1 w0 w1 p [], refl)));
}
  where
    some : (ps : List Piece) → AllByRecursion (IsPiece (PictureWithin limit edit)) ps → 0 < length ps → pieces_text ps ++ [] ≢ []
    some [] are long = absurd (omega (arith, long))
    some (x ∷ ps) are long = λ none. some_text (PictureHead edit) (pictures_readable apart letter edit) x (pieces_text ps) (are.0.0.is, are.0.1) (sym (append-nil (pieces_text (x ∷ ps))) ∙ none)

-- after the first letter
pub pictures_failed : (limit : ℕ) (edit : Edits) (r : Result ℕ RunFault) (left end old new : Option (List ℕ)) → PicturesFail r limit edit (behind_letter left) end old new → (input : Option (List ℕ)) → Consumes input left (80 ∷ []) → InputFails r edit input end old new
pictures_failed limit edit (Err Input) left end old new gave None read = tt
pictures_failed limit edit (Err Input) None end old new gave (Some all) read = absurd read
pictures_failed limit edit (Err Input) (Some rest) end old new gave (Some all) read = record {
  bytes = gave.bytes;
  read = read_behind (Some all) (Some rest) end gave.bytes read gave.read;
  are = (gave.are.1.0, gave.are.1.1, pictures_written limit edit gave.bytes (kind gave.bytes end gave.are.0 gave.read) old new gave.are.1.0 (Some []) gave.are.1.2);
}
  where
    kind : (bytes : List ℕ) (end : Option (List ℕ)) → bytes ≢ [] → Consumes (Some (80 ∷ rest)) end bytes → begins_picture bytes ≡ true
    kind bytes None some read = absurd read
    kind [] (Some more) some read = absurd (some refl)
    kind (b ∷ bytes) (Some more) some read = let same : 80 ≡ b = cc in ap (λ c. begins_picture (c ∷ bytes)) (sym same)
pictures_failed limit edit _ left end old new gave input read = tt

-- ---- the first byte

pub first_failed : (edit : Edits) (input left old : Option (List ℕ)) → Keeps input left → InputFails (Err Input) edit input left old old
first_failed edit None left old kept = tt
first_failed edit (Some all) left old kept = record {
  bytes = [];
  read = Consumes-kept (Some all) (Some all) left [] refl kept;
  are = (Err Header, refl, no_first edit (Some []) (Some []) old refl refl);
}
