-- The boxes of a tracker's list have frames, and so have their covers.
use Rattle.std.proofs.Common.{◌≡◌, ◌<◌, ◌+◌, ◌^◌, ◌&&◌, ℕ, Bool, true, false, nat_lt, if◌then◌else◌, List, [], ◌∷◌, ◌++◌, Option, Some, None, IfSome, All, refl, ap, subst, arith, get_or, length, map}
use Rattle.std.specs.List.{flat_map, range_with_len, slice_get}
use Rattle.std.specs.Option.{option_map}
use Rattle.std.proofs.lemmas.Bool.Decides.{nat_tests}
use Rattle.std.proofs.lemmas.List.Elements.{All-append, All-cons, All-map, All-nil}
use Rattle.std.proofs.lemmas.List.Sorted.{All-permutation}
use Rattle.std.proofs.lemmas.Option.{get_or_from_slice_get, slice_get_within}
use Rattle.texts.proofs.FieldNumbers.{number_of-is}
use Rattle.texts.proofs.Options.{bind_some, guard_some, map_some, some_is}
use Rattle.texts.specs.Parts.{parts_of}
use Rattle.texts.specs.Reading.{first_of_parts, number_of}
use Rattle.frame_texts.specs.Boxes.{box_in, box_of, box_text, boxes_by, counted, each_box, frame_of, line_boxes, with_boxes, without_white}
use Rattle.frame_texts.specs.Tracks.{comes_at, goes_on_at, missing}
use Rattle.frame_texts.specs.declared.boxes.Tracked.{Tracked}
use Rattle.frame_edits.specs.BoxCovers.{cover_of}
use Rattle.frame_edits.specs.Holds.{between, filled, held_at, kept, kept_by, kept_on}
use Rattle.frame_edits.specs.declared.box_covers.BoxStyle.{BoxStyle}
use Rattle.frame_edits.specs.declared.words.Edit.{Edit}
use Rattle.frame_requests.specs.Boxes.{CoverBoxes}
use Rattle.frame_requests.specs.Words.{HaveFrames, has_span}

-- the frame of a box, from 1
abbrev IsFrame : ℕ → Type 0
IsFrame n = (0 < n) × (n < 2 ^ 64)

abbrev HasFrame : Tracked → Type 0
HasFrame b = IsFrame b.frame

counted_frame : (o : Option ℕ) (n : ℕ) → counted o ≡ Some n → (0 < n) × (o ≡ Some n)
counted_frame None n e = absurd cc
counted_frame (Some m) n e =
    let c = guard_some (nat_lt 0 m) m n e in
    (grind (arith, nat_tests), ap (λ k. Some k) c.1)

field_frame : (field : List ℕ) (n : ℕ) → frame_of field ≡ Some n → IsFrame n
field_frame field n e =
    let c = counted_frame (number_of (without_white field)) n e in
    (c.0, (number_of-is (without_white field) n c.1).1)

first_frame : (fields : List (List ℕ)) (x : ℕ × List (List ℕ)) → first_of_parts frame_of fields ≡ Some x → IsFrame x.0
unfolding first_of_parts
first_frame [] x e = absurd cc
first_frame (field ∷ fields) x e =
    let c = map_some (frame_of field) (λ value. (value, fields)) x e in
    subst IsFrame (ap (λ p. p.0) c.2) (field_frame field c.0 c.1)

box_frame : (fields : List (List ℕ)) (b : Tracked) → box_in fields ≡ Some b → HasFrame b
unfolding box_in
box_frame fields b e = grind (arith, bind_some, guard_some, first_frame)

-- ---- all lines

one : {X : Type 0} (P : X → Type 0) (x : X) → P x → All P (x ∷ [])
one P x has = All-cons P x [] has (All-nil P)

line_framed : (found : Option Tracked) (line : List ℕ) (boxes : List Tracked) → ((b : Tracked) → found ≡ Some b → HasFrame b) → boxes_by found line ≡ Some boxes → All HasFrame boxes
line_framed (Some b) line boxes has e = subst (All HasFrame) (some_is (b ∷ []) boxes e) (one HasFrame b (has b refl))
line_framed None line boxes has e = subst (All HasFrame) (guard_some _ [] boxes e).1 (All-nil HasFrame)

all_framed : (lines : List (List ℕ)) (old new : List Tracked) → All HasFrame old → with_boxes old lines ≡ Some new → All HasFrame new
all_framed [] old new has e = subst (All HasFrame) (some_is old new e) has
all_framed (line ∷ lines) old new has e =
    let mid = bind_some (option_map (λ more. old ++ more) (line_boxes line)) (λ all. with_boxes all lines) new e in
    let more = map_some (line_boxes line) (λ more. old ++ more) mid.0 mid.1 in
    let framed = line_framed (box_of (box_text line)) (box_text line) more.0 (box_frame (parts_of 44 (box_text line))) more.1 in
    all_framed lines mid.0 new (subst (All HasFrame) more.2 (All-append HasFrame old more.0 has framed)) mid.2

boxes_framed : (text : List ℕ) (boxes : List Tracked) → each_box text ≡ Some boxes → All HasFrame boxes
boxes_framed text boxes e = all_framed (parts_of 10 text) [] boxes (All-nil HasFrame) e

-- ---- covers

abbrev HasSpan : Edit → Type 0
HasSpan e = has_span e.range ≡ true

cover_spans : (style : BoxStyle) (b : Tracked) → HasFrame b → HasSpan (cover_of style b)
cover_spans style b has = grind (arith, nat_tests, has)

kept_spans : (style : BoxStyle) (before after : ℕ) (b : Tracked) → HasFrame b → HasSpan (kept style before after b)
kept_spans style before after b has = grind (arith, nat_tests, has)

between_spans : (style : BoxStyle) (a b : Tracked) → nat_lt 0 (missing a b) ≡ true → HasSpan (between style a b)
between_spans style a b gap = grind (arith, nat_tests, gap)

place_framed : (bs : List Tracked) (at : ℕ) (found : Option Tracked) → All HasFrame bs → slice_get bs at ≡ found → IfSome found HasFrame
place_framed bs at None has is = tt
place_framed bs at (Some b) has is = subst HasFrame (get_or_from_slice_get bs at b b is) (has at b (slice_get_within bs at b is))

kept_by_spans : (style : BoxStyle) (hold : ℕ) (comes goes : Bool) (found : Option Tracked) → IfSome found HasFrame → All HasSpan (kept_by style hold comes goes found)
kept_by_spans style hold comes goes None has = All-nil HasSpan
kept_by_spans style hold comes goes (Some b) has = one HasSpan _ (kept_spans style (kept_on hold comes) (kept_on hold goes) b has)

gap_spans : (style : BoxStyle) (goes gap : Bool) (a b : Tracked) → nat_lt 0 (missing a b) ≡ gap → All HasSpan (if goes && gap then between style a b ∷ [] else [])
gap_spans style true true a b is = one HasSpan _ (between_spans style a b is)
gap_spans style true false a b is = All-nil HasSpan
gap_spans style false gap a b is = All-nil HasSpan

filled_spans : (style : BoxStyle) (goes : Bool) (found next : Option Tracked) → All HasSpan (filled style goes found next)
filled_spans style goes None next = All-nil HasSpan
filled_spans style goes (Some a) None = All-nil HasSpan
filled_spans style goes (Some a) (Some b) = gap_spans style goes (nat_lt 0 (missing a b)) a b refl

held_spans : (style : BoxStyle) (hold : ℕ) (bs : List Tracked) → All HasFrame bs → (places : List ℕ) → All HasSpan (flat_map (held_at style hold bs) places)
held_spans style hold bs has [] = All-nil HasSpan
held_spans style hold bs has (at ∷ places) = All-append HasSpan (held_at style hold bs at) _
    (All-append HasSpan _ _ (kept_by_spans style hold (comes_at hold bs at) (goes_on_at hold bs at) (slice_get bs at) (place_framed bs at (slice_get bs at) has refl))
    (filled_spans style (goes_on_at hold bs at) (slice_get bs at) (slice_get bs (at + 1))))
    (held_spans style hold bs has places)

each_spans : (style : BoxStyle) (bs : List Tracked) → All HasFrame bs → All HasSpan (map (cover_of style) bs)
each_spans style bs has = All-map HasSpan (cover_of style) bs (λ i d within. cover_spans style (get_or bs i d) (has i d within))

-- the range of each cover of a text has a frame
pub covers_have_frames : (style : BoxStyle) (text : List ℕ) (hold : Option ℕ) (covers : List Edit) → CoverBoxes style text hold covers → HaveFrames covers
covers_have_frames style text None covers are =
    All-permutation HasSpan _ covers are.same (each_spans style are.read (boxes_framed text are.read are.are))
covers_have_frames style text (Some hold) covers are =
    All-permutation HasSpan _ covers are.held (held_spans style hold are.tracked (All-permutation HasFrame are.read are.tracked are.same (boxes_framed text are.read are.are)) (range_with_len 0 (length are.tracked)))
