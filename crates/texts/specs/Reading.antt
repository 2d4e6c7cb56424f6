-- Reading: a piece of text as a value, or nothing where it isn't the text of a value.
use Rattle.std.specs.Prelude.{◌≡◌, ℕ, ◌^◌, Bool, true, false, ◌&&◌, ◌||◌, List, [], ◌∷◌, ◌++◌, length, Option, Some, None, nat_lt, nat_le, ◌==◌, if◌then◌else◌, slice_index, option_and_then}
use Rattle.std.specs.Option.{option_map}
use Rattle.std.specs.Str.{all_ascii_digits}
use Rattle.std.specs.Str.Parse.{digits_value}
use Rattle.image_shape.specs.declared.window.Window.{Window}
use Rattle.texts.specs.Parts.{parts_of}

-- it found nothing, or what is read, as seen through a view
abbrev pub Finds : {X Y : Type 0} → (X → Y) → Option X → Option Y → Type 0
Finds view None read = read ≡ None
Finds view (Some x) read = read ≡ Some (view x)

-- one step after the other
infixl 10 ◌>>=◌
abbrev pub ◌>>=◌ : {A B : Type 0} → Option A → (A → Option B) → Option B
o >>= f = option_and_then f o

-- the number that digits denote, with any leading zeros
unfoldable pub digits_of : List ℕ → Option ℕ
digits_of field = if all_ascii_digits field && (nat_lt 0 (length field) && nat_lt (digits_value 10 field) (2 ^ 64)) then Some (digits_value 10 field) else None

-- the number that a field denotes: no sign, and no leading zeros
unfoldable pub number_of : List ℕ → Option ℕ
number_of field = if slice_index field 0 == 43 || (slice_index field 0 == 48 && nat_lt 1 (length field)) then None else digits_of field

-- the pixel that a field denotes
unfoldable pub pixel_of : List ℕ → Option ℕ
pixel_of field = do
  value ← number_of field
  if nat_le value 255 then Some value else None

-- what each part is read as, where each is
unfoldable pub each_of : {A : Type 0} → (List ℕ → Option A) → List (List ℕ) → Option (List A)
each_of read [] = Some []
each_of read (part ∷ parts) = do
  value ← read part
  values ← each_of read parts
  Some (value ∷ values)

-- what is read, after what was read before
abbrev pub with_front : {A : Type 0} → List A → Option (List A) → Option (List A)
with_front front rest = option_map (λ xs. front ++ xs) rest

-- what the first part is read as, and the parts after it
unfoldable pub first_of_parts : {A : Type 0} → (List ℕ → Option A) → List (List ℕ) → Option (A × List (List ℕ))
first_of_parts read [] = None
first_of_parts read (part ∷ parts) = option_map (λ value. (value, parts)) (read part)

-- the number that the first part denotes, and the parts after it
abbrev pub number_at : List (List ℕ) → Option (ℕ × List (List ℕ))
number_at parts = first_of_parts number_of parts

-- the pixel that the first part denotes, and the parts after it
abbrev pub pixel_at : List (List ℕ) → Option (ℕ × List (List ℕ))
pixel_at parts = first_of_parts pixel_of parts

-- whether all parts have been taken
abbrev pub is_nil : {A : Type 0} → List A → Bool
is_nil [] = true
is_nil (x ∷ xs) = false

-- four numbers, and no further part
unfoldable pub window_in : List (List ℕ) → Option Window
window_in parts = do
  left ← number_at parts
  top ← number_at left.1
  width ← number_at top.1
  height ← number_at width.1
  if is_nil height.1 then Some (record { left = left.0; top = top.0; width = width.0; height = height.0 }) else None

-- the window that a part denotes
abbrev pub window_of : List ℕ → Option Window
window_of part = window_in (parts_of 44 part)
