-- Pieces so far, and one more.
use Rattle.std.proofs.Common.{◌≡◌, ℕ, ◌+◌, ◌<◌, List, [], ◌∷◌, ◌++◌, Option, length, refl, sym, ap, ◌∙◌, subst, arith, append_assoc}
use Rattle.std.specs.List.{AllByRecursion}
use Rattle.std.specs.Io.KnownBytes.{Consumes, Appends}
use Rattle.std.proofs.KnownBytes.{Consumes-nil, Consumes-trans, Appends-nil, Appends-trans}
use Rattle.std.proofs.lemmas.List.{flat_map_more, append-nil}
use Rattle.frame_formats.specs.Recipe.{Recipe}
use Rattle.frame_runs.specs.Stream.{Piece, IsPiece, piece_text, pieces_text, made_text, all_made}
use Rattle.devices.specs.Whole.{AppendsBeginning}
use Rattle.frame_runs.specs.Passing.{Passed, PassedPart}

pub all_snoc : (P : Piece → Type 0) (xs : List Piece) (x : Piece) → AllByRecursion P xs → P x → AllByRecursion P (xs ++ x ∷ [])
all_snoc P [] x all p = (p, tt)
all_snoc P (y ∷ xs) x all p = (all.0, all_snoc P xs x all.1 p)

pub length_snoc : (xs : List Piece) (x : Piece) → length (xs ++ x ∷ []) ≡ length xs + 1
length_snoc [] x = refl
length_snoc (y ∷ xs) x = let e = length_snoc xs x in omega arith

pub text_snoc : (xs : List Piece) (x : Piece) → pieces_text xs ++ piece_text x ≡ pieces_text (xs ++ x ∷ [])
text_snoc xs x = flat_map_more piece_text [] xs x

pub made_snoc : (n m : ℕ) (xs : List Piece) (x : Piece) → n + length xs ≡ m → all_made n (xs ++ x ∷ []) ≡ all_made n xs ++ made_text m x
made_snoc n m [] x e = let same : n ≡ m = omega (arith, e) in append-nil (made_text n x) ∙ ap (λ k. made_text k x) same
made_snoc n m (y ∷ xs) x e = ap (λ l. made_text n y ++ l) (made_snoc (n + 1) m xs x (omega (arith, e))) ∙ sym (append_assoc (made_text n y) (all_made (n + 1) xs) (made_text m x))

-- pieces of some heads are pieces of others, among which these are
module _ (heads others : List ℕ → Recipe → Type 0) (into : (h : List ℕ) (r : Recipe) → heads h r → others h r) where
  pub all_as : (ps : List Piece) → AllByRecursion (IsPiece heads) ps → AllByRecursion (IsPiece others) ps
  all_as [] are = tt
  all_as (p ∷ ps) are = ((into p.head p.recipe are.0.0, are.0.1), all_as ps are.1)

  pub passed_as : (n : ℕ) (r0 r1 w0 w1 : Option (List ℕ)) → Passed heads n r0 r1 w0 w1 → Passed others n r0 r1 w0 w1
  passed_as n r0 r1 w0 w1 p = record { within = p.within; pieces = p.pieces; are = all_as p.pieces p.are; count_is = p.count_is; read = p.read; written = p.written }

  pub part_as : (r0 w0 w2 : Option (List ℕ)) → PassedPart heads r0 w0 w2 → PassedPart others r0 w0 w2
  part_as r0 w0 w2 p = record {
    count = p.count;
    within = p.within;
    left = p.left;
    held = p.held;
    piece = p.piece;
    after = p.after;
    passed = passed_as p.count r0 p.left w0 p.held p.passed;
    is = (into p.piece.head p.piece.recipe p.is.0, p.is.1);
    read = p.read;
    written = p.written;
  }

module _ (heads : List ℕ → Recipe → Type 0) where
  -- nothing yet
  unfoldable pub none_passed : (r w : Option (List ℕ)) → Passed heads 0 r r w w
  none_passed r w = record { within = omega arith; pieces = []; are = tt; count_is = refl; read = Consumes-nil r; written = Appends-nil w }

  -- and nothing more
  unfoldable pub passed_on : (n : ℕ) (r0 r1 r2 w0 w1 : Option (List ℕ)) → Passed heads n r0 r1 w0 w1 → Consumes r1 r2 [] → Passed heads n r0 r2 w0 w1
  passed_on n r0 r1 r2 w0 w1 p read = record {
    within = p.within;
    pieces = p.pieces;
    are = p.are;
    count_is = p.count_is;
    read = subst (Consumes r0 r2) (append-nil (pieces_text p.pieces)) (Consumes-trans r0 r1 r2 _ _ p.read read);
    written = p.written;
  }

  -- a piece was read
  module _ (n : ℕ) (x : Piece) (is : IsPiece heads x) (r0 r1 r2 w0 w1 w2 : Option (List ℕ)) (p : Passed heads n r0 r1 w0 w1) (read : Consumes r1 r2 (piece_text x)) where
    -- and what it becomes is written
    unfoldable pub one_more : n < 18446744073709551615 → Appends w1 w2 (made_text n x) → Passed heads (n + 1) r0 r2 w0 w2
    one_more within written = record {
      within = omega (arith, within);
      pieces = p.pieces ++ x ∷ [];
      are = all_snoc (IsPiece heads) p.pieces x p.are is;
      count_is = length_snoc p.pieces x ∙ ap (λ k. k + 1) p.count_is;
      read = subst (Consumes r0 r2) (text_snoc p.pieces x) (Consumes-trans r0 r1 r2 _ _ p.read read);
      written = subst (Appends w0 w2) (sym (made_snoc 0 n p.pieces x (omega (arith, p.count_is)))) (Appends-trans w0 w1 w2 _ _ p.written written);
    }

    -- and a beginning of that is written
    pub part_more : n < 18446744073709551615 → AppendsBeginning w1 w2 (made_text n x) → PassedPart heads r0 w0 w2
    part_more within begins = record {
      count = n;
      within = within;
      left = r1;
      held = w1;
      piece = x;
      after = r2;
      passed = p;
      is = is;
      read = read;
      written = begins;
    }
