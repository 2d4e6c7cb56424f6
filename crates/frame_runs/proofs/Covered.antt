-- Inputs that differ only in what covers and fills cover differ only in what is hidden, where these come first.
use Rattle.std.proofs.Common.{◌≡◌, ℕ, ◌+◌, true, List, [], ◌∷◌, Option, Some, None, Result, sym, subst, inr}
use Rattle.image_planes.specs.Filled.{PlanesUnfilled}
use Rattle.image_planes.specs.Unseen.{PlanesAlike}
use Rattle.frame_edits.specs.Edits.{Edits}
use Rattle.frame_edits.specs.Order.{covers_first}
use Rattle.frame_formats.specs.Recipe.{Recipe, HidesFilled}
use Rattle.frame_requests.specs.declared.fault.RunFault.{RunFault}
use Rattle.frame_runs.specs.Alike.{Alike, AlikeUncovered, HidesCovered, OneOutputCovered, OneSeenCovered, PiecesAlike}
use Rattle.frame_runs.specs.Program.{IsStream, Stream, Writes, heads_of}
use Rattle.frame_runs.specs.Program.Stream.{video, pictures}
use Rattle.frame_runs.specs.Stream.{Piece}
use Rattle.frame_runs.proofs.Hiding.{Laws, hides}
use Rattle.frame_runs.proofs.OneOutput.{one_output}
use Rattle.frame_runs.proofs.OneSeen.{one_seen}

head_filled : Laws → (edit : Edits) → covers_first edit.steps ≡ true → (stream : Stream) → IsStream edit stream → (head : List ℕ) (recipe : Recipe) → heads_of edit stream head recipe → HidesFilled recipe
head_filled laws edit first (video line v) is head recipe h = subst HidesFilled (sym h.recipe_is) (laws.videos_filled edit line v first is.2)
head_filled laws edit first pictures is head recipe h = laws.pictures_filled edit h.picture recipe first h.edited

pieces_alike : (heads : List ℕ → Recipe → Type 0) → ((head : List ℕ) (recipe : Recipe) → heads head recipe → HidesFilled recipe) → (n : ℕ) (ps qs : List Piece) → PiecesAlike PlanesUnfilled heads n ps qs → PiecesAlike PlanesAlike heads n ps qs
pieces_alike heads filled n [] [] a = a
pieces_alike heads filled n [] (q ∷ qs) a = absurd a
pieces_alike heads filled n (p ∷ ps) [] a = absurd a
pieces_alike heads filled n (p ∷ ps) (q ∷ qs) a = (
  record { mine = a.0.mine; theirs = a.0.theirs; same_head = a.0.same_head; alike = filled p.head p.recipe a.0.mine.0 n p.cells q.cells a.0.alike },
  pieces_alike heads filled (n + 1) ps qs a.1,
)

alike : Laws → (edit : Edits) (mine theirs : List ℕ) → covers_first edit.steps ≡ true → AlikeUncovered edit mine theirs → Alike edit mine theirs
alike laws edit mine theirs first a = record {
  stream = a.stream;
  is = a.is;
  mine_kind = a.mine_kind;
  theirs_kind = a.theirs_kind;
  pieces = a.pieces;
  others = a.others;
  alike = pieces_alike (heads_of edit a.stream) (head_filled laws edit first a.stream a.is) 0 a.pieces a.others a.alike;
  rest = a.rest;
  other = a.other;
  ends = a.ends;
  mine_is = a.mine_is;
  theirs_is = a.theirs_is;
}

pub one_output_covered : Laws → OneOutputCovered
one_output_covered laws edit mine theirs old new other r s first a w v = one_output laws edit mine theirs old new other r s (inr (alike laws edit mine theirs first a)) w v

pub hides_covered : Laws → (r : Result ℕ RunFault) (edit : Edits) (input old new : Option (List ℕ)) → Writes r edit input old new → HidesCovered r edit input old new
hides_covered laws r edit None old new w first = tt
hides_covered laws r edit (Some mine) old new w first = λ theirs a. hides laws r edit (Some mine) old new w theirs (alike laws edit mine theirs first a)

pub one_seen_covered : Laws → OneSeenCovered
one_seen_covered laws edit mine theirs r s seen other first a is same w v = one_seen laws edit mine theirs r s seen other (inr (alike laws edit mine theirs first a)) is same w v
