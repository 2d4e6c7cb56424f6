-- What a report has: where the output has the boxes and covers of each frame.
use Rattle.std.specs.Prelude.{◌≡◌, ◌≤◌, ◌<◌, ℕ, ◌+◌, ◌&&◌, ◌||◌, ◌==◌, Bool, true, false, nat_le, nat_lt, if◌then◌else◌, List, [], ◌∷◌, ◌++◌, Option, Some, None, IsPermutation}
use Rattle.std.specs.List.{AllByRecursion, filter, flat_map, range_with_len}
use Rattle.std.specs.List.Sorted.{IsNonDecreasingBy, IsStableByKey}
use Rattle.std.specs.Ordering.{nat_cmp}
use Rattle.std.specs.Fmt.{decimal}
use Rattle.std.specs.Option.{option_map}
use Rattle.image_commands.specs.declared.changes.Change.{Change}
use Rattle.image_commands.specs.declared.changes.Change.TheVariants.{Fill, Flip}
use Rattle.image_shape.specs.declared.window.Window.{Window}
use Rattle.frame_edits.specs.declared.framing.Framing.{Framing}
use Rattle.frame_edits.specs.declared.paint.Paint.{Paint}
use Rattle.frame_edits.specs.declared.paint.Paint.TheVariants.{Around}
use Rattle.frame_edits.specs.declared.words.Edit.{Edit}
use Rattle.frame_edits.specs.declared.words.Scope.{Scope}
use Rattle.frame_edits.specs.declared.words.Scope.TheVariants.{Exact, Boxed}
use Rattle.frame_texts.specs.declared.rate.Rate.{Rate}
use Rattle.frame_texts.specs.Ranges.{frames_in}
use Rattle.frame_messages.specs.Placed.{flipped_in, framed_in}
use Rattle.frame_messages.specs.declared.report.Span.{Span}
use Rattle.frame_requests.specs.Seen.{shape_at}
use Rattle.frame_requests.specs.Uncovered.{drawn_in, size_in}
use Rattle.frame_requests.specs.declared.seen.Shape.{Shape}

-- ---- which edits are drawn

abbrev pub is_boxed : Scope → Bool
is_boxed Exact = false
is_boxed (Boxed margin) = true

abbrev pub is_cover : Change Paint → Bool
is_cover (Fill w (Around value margin)) = true
is_cover _ = false

-- a box of a list, or a cover
abbrev pub is_drawn : Edit → Bool
is_drawn e = is_boxed e.scope || is_cover e.change

abbrev pub flips : Change Paint → Bool
flips (Flip axes) = true
flips _ = false

abbrev pub is_flip : Edit → Bool
is_flip e = flips e.change

-- ---- in which frames

-- an edit, by its number, with its frames, where it has some at this rate
abbrev pub span_of : Option Rate → ℕ → Edit → Option Span
span_of rate at e = option_map (λ frames. record { at = at; first = frames.0; end = frames.1; edit = e }) (frames_in rate e.range)

abbrev pub span_if : Bool → Option Rate → ℕ → Edit → Option Span
span_if b rate at e = if b then span_of rate at e else None

abbrev pub cons_some : Option Span → List Span → List Span
cons_some None spans = spans
cons_some (Some s) spans = s ∷ spans

-- the same of those edits that are such, the first of all having this number
abbrev pub spans_from : (Edit → Bool) → Option Rate → ℕ → List Edit → List Span
spans_from is rate at [] = []
spans_from is rate at (e ∷ es) = cons_some (span_if (is e) rate at e) (spans_from is rate (at + 1) es)

abbrev pub first_in : Span → ℕ
first_in s = s.first

-- the edits that are drawn, in the order of their first frames; those of one frame in their own order
pub record AreDrawn (steps : List Edit) (rate : Option Rate) (spans : List Span) : Type 0 where
  pub same : IsPermutation (spans_from is_drawn rate 0 steps) spans
  pub stable : IsStableByKey first_in nat_cmp (spans_from is_drawn rate 0 steps) spans
  pub in_order : IsNonDecreasingBy first_in spans

abbrev pub has_frame : ℕ → Span → Bool
has_frame n s = nat_le s.first n && nat_lt n s.end

-- ---- where the output has what they draw

-- a rectangle once a frame of this size is changed
abbrev pub moved_by : Change Paint → ℕ × ℕ → Window → Window
moved_by (Flip axes) size w = flipped_in axes size w
moved_by change size w = w

-- the edit comes after the one of this number, and is for the frame
abbrev pub comes_after : ℕ → ℕ → Span → Bool
comes_after at n s = nat_lt at s.at && has_frame n s

-- a rectangle of the edit of this number, once the frame is flipped by those of these flips that come after the edit and are for the frame
abbrev pub moved : List Span → ℕ × ℕ → ℕ → ℕ → Window → Window
moved [] size n at w = w
moved (f ∷ fs) size n at w = moved fs size n at (if comes_after at n f then moved_by f.edit.change size w else w)

-- where the output has what an edit draws in the frame of this number
abbrev pub placed : List Span → Option Framing → Shape → ℕ → Span → Window
placed flips framing shape n s = framed_in framing (size_in shape) (moved flips (size_in shape) n s.at (drawn_in shape s.edit))

-- ---- the text

abbrev pub has_no_pixel : Window → Bool
has_no_pixel w = w.width == 0 || w.height == 0

-- the line of a rectangle in the frame of this number, which counts from 1 there; of one without a pixel there is none
abbrev pub line_text : ℕ → Window → List ℕ
line_text n w = if has_no_pixel w then [] else decimal (n + 1) ++ 44 ∷ decimal w.left ++ 44 ∷ decimal w.top ++ 44 ∷ decimal w.width ++ 44 ∷ decimal w.height ++ 10 ∷ []

-- the lines of a frame: those of the edits that are for it
abbrev pub frame_text : List Span → Option Framing → List Span → ℕ → Option Shape → List ℕ
frame_text flips framing spans n None = []
frame_text flips framing spans n (Some shape) = flat_map (λ s. line_text n (placed flips framing shape n s)) (filter (has_frame n) spans)

-- the lines of so many frames of these shapes, frame by frame
abbrev pub report_text : List Span → Option Framing → List Span → List (ℕ × Shape) → ℕ → List ℕ
report_text flips framing spans shapes count = flat_map (λ n. frame_text flips framing spans n (shape_at shapes n)) (range_with_len 0 count)

-- a report of so many frames
pub record IsReport (steps : List Edit) (framing : Option Framing) (rate : Option Rate) (shapes : List (ℕ × Shape)) (count : ℕ) (text : List ℕ) : Type 0 where
  pub spans : List Span
  pub drawn : AreDrawn steps rate spans
  pub is : text ≡ report_text (spans_from is_flip rate 0 steps) framing spans shapes count

-- ---- as they are looked for

-- the spans that begin up to a frame went over to others, and the rest begin later
pub record TakesBegun (n : ℕ) (spans rest old new : List Span) : Type 0 where
  pub begun : List Span
  pub split : spans ≡ begun ++ rest
  pub now : new ≡ old ++ begun
  pub all : AllByRecursion (λ s. s.first ≤ n) begun
  pub next : (s : Span) (others : List Span) → rest ≡ s ∷ others → n < s.first
