-- What the lines of a text add to the boxes before them.
use Rattle.std.proofs.Common.{◌≡◌, ◌≢◌, ◌++◌, ℕ, Bool, true, false, List, [], ◌∷◌, Option, Some, None, refl, sym, ◌∙◌, arith}
use Rattle.std.specs.Option.{is_some, option_map}
use Rattle.texts.specs.Reading.{◌>>=◌}
use Rattle.frame_texts.specs.Boxes.{HasBoxes, IsBoxLine, box_of, boxes_by, box_text, each_box, line_boxes, with_boxes}
use Rattle.frame_texts.specs.declared.boxes.Tracked.{Tracked}

-- ---- whether each line is a box

-- this doesn't depend on the boxes before
added_alike : (old new : List Tracked) (more : Option (List Tracked)) (lines : List (List ℕ)) → ((a b : List Tracked) → is_some (with_boxes a lines) ≡ is_some (with_boxes b lines))
    → is_some (option_map (λ boxes. old ++ boxes) more >>= λ all. with_boxes all lines) ≡ is_some (option_map (λ boxes. new ++ boxes) more >>= λ all. with_boxes all lines)
added_alike old new None lines others = refl
added_alike old new (Some more) lines others = others (old ++ more) (new ++ more)

alike : (lines : List (List ℕ)) (old new : List Tracked) → is_some (with_boxes old lines) ≡ is_some (with_boxes new lines)
alike [] old new = refl
alike (line ∷ lines) old new = added_alike old new (line_boxes line) lines (alike lines)

line_more : (more : Option (List Tracked)) (lines : List (List ℕ)) → is_some more ≡ true → is_some (option_map (λ boxes. [] ++ boxes) more >>= λ all. with_boxes all lines) ≡ is_some (with_boxes [] lines)
line_more None lines good = absurd cc
line_more (Some more) lines good = alike lines more []

pub good_line : (line : List ℕ) (lines : List (List ℕ)) (total : Bool) → is_some (line_boxes line) ≡ true → is_some (with_boxes [] (line ∷ lines)) ≡ total → is_some (with_boxes [] lines) ≡ total
good_line line lines total good so_far = sym (line_more (line_boxes line) lines good) ∙ so_far

line_less : (more : Option (List Tracked)) (lines : List (List ℕ)) → is_some more ≡ false → is_some (option_map (λ boxes. [] ++ boxes) more >>= λ all. with_boxes all lines) ≡ false
line_less None lines bad = refl
line_less (Some more) lines bad = absurd cc

pub bad_line : (line : List ℕ) (lines : List (List ℕ)) (total : Bool) → is_some (line_boxes line) ≡ false → is_some (with_boxes [] (line ∷ lines)) ≡ total → total ≡ false
bad_line line lines total bad so_far = sym so_far ∙ line_less (line_boxes line) lines bad

-- ---- whether there is a box

stay_by : (b : Tracked) (bs : List Tracked) (more : Option (List Tracked)) (lines : List (List ℕ)) → ((xs : List Tracked) → with_boxes (b ∷ xs) lines ≢ Some []) → (option_map (λ boxes. (b ∷ bs) ++ boxes) more >>= λ all. with_boxes all lines) ≢ Some []
stay_by b bs None lines others = λ empty. absurd cc
stay_by b bs (Some more) lines others = others (bs ++ more)

stay : (lines : List (List ℕ)) (b : Tracked) (bs : List Tracked) → with_boxes (b ∷ bs) lines ≢ Some []
stay [] b bs = λ empty. absurd cc
stay (line ∷ lines) b bs = stay_by b bs (line_boxes line) lines (λ xs. stay lines b xs)

one_more : (b : Tracked) (old : List Tracked) (lines : List (List ℕ)) → with_boxes (old ++ b ∷ []) lines ≢ Some []
one_more b [] lines = stay lines b []
one_more b (x ∷ xs) lines = stay lines x (xs ++ b ∷ [])

with_one : (found : Option Tracked) (text : List ℕ) (old : List Tracked) (lines : List (List ℕ)) → found ≢ None → (option_map (λ boxes. old ++ boxes) (boxes_by found text) >>= λ all. with_boxes all lines) ≢ Some []
with_one None text old lines some = absurd (some refl)
with_one (Some b) text old lines some = one_more b old lines

-- with a line that is a box there is one
pub never_empty : (old : List Tracked) (line : List ℕ) (lines : List (List ℕ)) (total : Option (List Tracked)) → IsBoxLine line → with_boxes old (line ∷ lines) ≡ total → total ≢ Some []
never_empty old line lines total box so_far = λ empty. with_one (box_of (box_text line)) (box_text line) old lines box (so_far ∙ empty)

-- ---- all lines

are_there : (text : List ℕ) (found : Option (List Tracked)) → each_box text ≡ found → is_some found ≡ true → found ≢ Some [] → HasBoxes text
are_there text None is good some = absurd cc
are_there text (Some []) is good some = absurd (some refl)
are_there text (Some (b ∷ bs)) is good some = record { boxes = b ∷ bs; are = is; some = omega arith }

pub has_boxes : (text : List ℕ) → is_some (each_box text) ≡ true → each_box text ≢ Some [] → HasBoxes text
has_boxes text good some = are_there text (each_box text) refl good some

none_of : (found : Option (List Tracked)) → is_some found ≡ false → found ≡ None
none_of None bad = refl
none_of (Some boxes) bad = absurd cc

pub no_boxes : (text : List ℕ) → is_some (each_box text) ≡ false → each_box text ≡ None
no_boxes text bad = none_of (each_box text) bad
