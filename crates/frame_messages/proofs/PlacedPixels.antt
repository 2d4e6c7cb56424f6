-- A rectangle of the output has the pixels that come from the rectangle of the frame.
use Rattle.std.proofs.Common.{◌≡◌, ◌≤◌, ◌<◌, ◌+◌, ◌-◌, ◌&&◌, ℕ, Bool, true, false, nat_le, nat_lt, if◌then◌else◌, Some, None, refl, sym, ap, ◌∙◌, arith, inl, inr}
use Rattle.std.proofs.lemmas.Bool.{cases_lt}
use Rattle.image_commands.specs.declared.changes.Axes.TheVariants.{Rows, Columns, Both}
use Rattle.image_commands.specs.declared.changes.Quarter.TheVariants.{Right, Left}
use Rattle.image_shape.specs.declared.window.Window.{Window}
use Rattle.frame_edits.specs.declared.framing.Framing.TheVariants.{Crop, Pad, Turn}
use Rattle.frame_messages.specs.Placed.{BorderFits, FlipsPixels, FramesPixels, IsWithin, before_framing, common, framed_in, has, has_at, sum_or_most}

-- the pixel is one of so many from a place on
abbrev in_line : ℕ → ℕ → ℕ → Bool
in_line start count x = nat_le start x && nat_lt x (start + count)

le_true : (a b : ℕ) → a ≤ b → nat_le a b ≡ true
le_true a b order = grind (arith, order)

le_false : (a b : ℕ) → b < a → nat_le a b ≡ false
le_false a b order = grind (arith, order)

lt_true : (a b : ℕ) → a < b → nat_lt a b ≡ true
lt_true a b order = grind (arith, order)

lt_false : (a b : ℕ) → b ≤ a → nat_lt a b ≡ false
lt_false a b order = grind (arith, order)

-- it is, or is before it, or after it
line_true : (start count x : ℕ) → start ≤ x → x < start + count → in_line start count x ≡ true
line_true start count x from before = λ i. le_true start x from i && lt_true x (start + count) before i

line_before : (start count x : ℕ) → x < start → in_line start count x ≡ false
line_before start count x before = ap (λ (b : Bool). b && nat_lt x (start + count)) (le_false start x before)

and_false : (b : Bool) → (b && false) ≡ false
and_false true = refl
and_false false = refl

line_past : (start count x : ℕ) → start + count ≤ x → in_line start count x ≡ false
line_past start count x past = ap (λ (b : Bool). nat_le start x && b) (lt_false x (start + count) past) ∙ and_false (nat_le start x)

-- from the other end
mirrored : (len start count x : ℕ) → start + count ≤ len → x < len → in_line (len - start - count) count x ≡ in_line start count (len - 1 - x)
mirrored len start count x inside within = elim (cases_lt x (len - start - count)) [
  | inl before ↦ line_before (len - start - count) count x before ∙ sym (line_past start count (len - 1 - x) (omega (arith, inside, within, before)))
  | inr from ↦ elim (cases_lt x (len - start)) [
    | inl before ↦ line_true (len - start - count) count x from (omega (arith, inside, before, from)) ∙ sym (line_true start count (len - 1 - x) (omega (arith, inside, within, before)) (omega (arith, inside, within, from)))
    | inr past ↦ line_past (len - start - count) count x (omega (arith, inside, past)) ∙ sym (line_before start count (len - 1 - x) (omega (arith, inside, within, past)))
  ]
]

both : (a b c d : Bool) → a ≡ c → b ≡ d → (a && b) ≡ (c && d)
both a b c d p q = λ i. p i && q i

swap : (a b : Bool) → (a && b) ≡ (b && a)
swap true true = refl
swap true false = refl
swap false true = refl
swap false false = refl

pub flips_pixels : FlipsPixels
flips_pixels Rows size w u v is column row = ap (λ (b : Bool). in_line w.left w.width u && b) (mirrored size.1 w.top w.height v is.rows row)
flips_pixels Columns size w u v is column row = ap (λ (b : Bool). b && in_line w.top w.height v) (mirrored size.0 w.left w.width u is.columns column)
flips_pixels Both size w u v is column row = both _ _ _ _ (mirrored size.0 w.left w.width u is.columns column) (mirrored size.1 w.top w.height v is.rows row)

-- what a crop keeps of so many, of which the pixel is one
kept_true : (start count other len x : ℕ) → x < len → in_line (start - other) (common start count other len) x ≡ in_line start count (x + other)
kept_true start count other len x within = elim (cases_lt (x + other) start) [
  | inl before ↦ line_before (start - other) (common start count other len) x (omega (arith, before)) ∙ sym (line_before start count (x + other) before)
  | inr from ↦ elim (cases_lt (x + other) (start + count)) [
    | inl before ↦ line_true (start - other) (common start count other len) x (omega (arith, from)) (omega (arith, from, before, within)) ∙ sym (line_true start count (x + other) from before)
    | inr past ↦ line_past (start - other) (common start count other len) x (omega (arith, from, past)) ∙ sym (line_past start count (x + other) past)
  ]
]

kept_false : (start count other len x : ℕ) → len ≤ x → in_line (start - other) (common start count other len) x ≡ false
kept_false start count other len x past = elim (cases_lt x (start - other)) [
  | inl before ↦ line_before (start - other) (common start count other len) x before
  | inr from ↦ line_past (start - other) (common start count other len) x (omega (arith, from, past))
]

crop_pixels : (kept w : Window) (size : ℕ × ℕ) (u v : ℕ) → has (framed_in (Some (Crop kept)) size w) u v ≡ has_at w (before_framing (Some (Crop kept)) size u v)
crop_pixels kept w size u v = elim (cases_lt u kept.width) [
  | inl column ↦ elim (cases_lt v kept.height) [
    | inl row ↦ both _ _ _ _ (kept_true w.left w.width kept.left kept.width u column) (kept_true w.top w.height kept.top kept.height v row) ∙ sym (λ i. has_at w (if lt_true u kept.width column i && lt_true v kept.height row i then Some (u + kept.left, v + kept.top) else None))
    | inr past ↦ both _ _ _ false refl (kept_false w.top w.height kept.top kept.height v past) ∙ and_false _ ∙ sym (ap (λ (b : Bool). has_at w (if b then Some (u + kept.left, v + kept.top) else None)) (ap (λ (b : Bool). nat_lt u kept.width && b) (lt_false v kept.height past) ∙ and_false (nat_lt u kept.width)))
  ]
  | inr past ↦ ap (λ (b : Bool). b && in_line (w.top - kept.top) (common w.top w.height kept.top kept.height) v) (kept_false w.left w.width kept.left kept.width u past) ∙ sym (λ i. has_at w (if lt_false u kept.width past i && nat_lt v kept.height then Some (u + kept.left, v + kept.top) else None))
]

-- after a border of so many
bordered : (start count border x : ℕ) → border ≤ x → in_line (start + border) count x ≡ in_line start count (x - border)
bordered start count border x from = elim (cases_lt (x - border) start) [
  | inl before ↦ line_before (start + border) count x (omega (arith, from, before)) ∙ sym (line_before start count (x - border) before)
  | inr here ↦ elim (cases_lt (x - border) (start + count)) [
    | inl before ↦ line_true (start + border) count x (omega (arith, from, here)) (omega (arith, from, before)) ∙ sym (line_true start count (x - border) here before)
    | inr past ↦ line_past (start + border) count x (omega (arith, from, past)) ∙ sym (line_past start count (x - border) past)
  ]
]

sum_is : (a b most : ℕ) → a ≤ most → most + b ≤ 18446744073709551615 → sum_or_most a b ≡ a + b
sum_is a b most order fits = omega (arith, order, fits)

border_pixels : (left top right bottom value : ℕ) (w : Window) (size : ℕ × ℕ) (u v : ℕ) → IsWithin w size → BorderFits (Some (Pad left top right bottom value)) size → has (framed_in (Some (Pad left top right bottom value)) size w) u v ≡ has_at w (before_framing (Some (Pad left top right bottom value)) size u v)
border_pixels left top right bottom value w size u v is fits =
    let column : sum_or_most w.left left ≡ w.left + left = sum_is w.left left size.0 (omega (arith, is.columns)) fits.0 in
    let row : sum_or_most w.top top ≡ w.top + top = sum_is w.top top size.1 (omega (arith, is.rows)) fits.1 in
    (λ i. in_line (column i) w.width u && in_line (row i) w.height v) ∙ elim (cases_lt u left) [
      | inl before ↦ ap (λ (b : Bool). b && in_line (w.top + top) w.height v) (line_before (w.left + left) w.width u (omega (arith, before))) ∙ sym (λ i. has_at w (if le_false left u before i && nat_le top v then Some (u - left, v - top) else None))
      | inr from ↦ elim (cases_lt v top) [
        | inl before ↦ ap (λ (b : Bool). in_line (w.left + left) w.width u && b) (line_before (w.top + top) w.height v (omega (arith, before))) ∙ and_false (in_line (w.left + left) w.width u) ∙ sym (ap (λ (b : Bool). has_at w (if b then Some (u - left, v - top) else None)) (ap (λ (b : Bool). nat_le left u && b) (le_false top v before) ∙ and_false (nat_le left u)))
        | inr below ↦ both _ _ _ _ (bordered w.left w.width left u from) (bordered w.top w.height top v below) ∙ sym (λ i. has_at w (if le_true left u from i && le_true top v below i then Some (u - left, v - top) else None))
      ]
    ]

right_pixels : (w : Window) (size : ℕ × ℕ) (u v : ℕ) → IsWithin w size → has (framed_in (Some (Turn Right)) size w) u v ≡ has_at w (before_framing (Some (Turn Right)) size u v)
right_pixels w size u v is = elim (cases_lt u size.1) [
  | inl column ↦ ap (λ (b : Bool). b && in_line w.left w.width v) (mirrored size.1 w.top w.height u is.rows column) ∙ swap (in_line w.top w.height (size.1 - 1 - u)) (in_line w.left w.width v) ∙ sym (ap (λ (b : Bool). has_at w (if b then Some (v, size.1 - 1 - u) else None)) (lt_true u size.1 column))
  | inr past ↦ ap (λ (b : Bool). b && in_line w.left w.width v) (line_past (size.1 - w.top - w.height) w.height u (omega (arith, is.rows, past))) ∙ sym (ap (λ (b : Bool). has_at w (if b then Some (v, size.1 - 1 - u) else None)) (lt_false u size.1 past))
]

left_pixels : (w : Window) (size : ℕ × ℕ) (u v : ℕ) → IsWithin w size → has (framed_in (Some (Turn Left)) size w) u v ≡ has_at w (before_framing (Some (Turn Left)) size u v)
left_pixels w size u v is = elim (cases_lt v size.0) [
  | inl row ↦ ap (λ (b : Bool). in_line w.top w.height u && b) (mirrored size.0 w.left w.width v is.columns row) ∙ swap (in_line w.top w.height u) (in_line w.left w.width (size.0 - 1 - v)) ∙ sym (ap (λ (b : Bool). has_at w (if b then Some (size.0 - 1 - v, u) else None)) (lt_true v size.0 row))
  | inr past ↦ ap (λ (b : Bool). in_line w.top w.height u && b) (line_past (size.0 - w.left - w.width) w.width v (omega (arith, is.columns, past))) ∙ and_false (in_line w.top w.height u) ∙ sym (ap (λ (b : Bool). has_at w (if b then Some (size.0 - 1 - v, u) else None)) (lt_false v size.0 past))
]

pub frames_pixels : FramesPixels
frames_pixels None size w u v is fits = refl
frames_pixels (Some (Crop kept)) size w u v is fits = crop_pixels kept w size u v
frames_pixels (Some (Pad left top right bottom value)) size w u v is fits = border_pixels left top right bottom value w size u v is fits
frames_pixels (Some (Turn Right)) size w u v is fits = right_pixels w size u v is
frames_pixels (Some (Turn Left)) size w u v is fits = left_pixels w size u v is
