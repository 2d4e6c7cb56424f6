-- Ranges of frames that words name, and which frames they are.
use Rattle.std.specs.Prelude.{◌≡◌, ◌<◌, ◌≤◌, ◌↔◌, ⊤, ℕ, ◌+◌, ◌-◌, ◌*◌, ◌/◌, ◌&&◌, ◌||◌, ◌==◌, nat_lt, min, if◌then◌else◌, List, [], ◌∷◌, Option, Some, None}
use Rattle.std.specs.Option.{option_map}
use Rattle.texts.specs.Parts.{parts_of}
use Rattle.texts.specs.Reading.{◌>>=◌, number_of, first_of_parts, number_at, is_nil}
use Rattle.frame_texts.specs.Digits.{is_digit, worth_of}
use Rattle.frame_texts.specs.declared.ranges.Range.{Range}
use Rattle.frame_texts.specs.declared.ranges.Range.TheVariants.{Frames, Times}
use Rattle.frame_texts.specs.declared.rate.Rate.{Rate}

-- ---- by numbers

-- the end of a range, which may be left out: then it is greater than the number of each frame
abbrev pub end_of : List ℕ → Option ℕ
end_of part = if is_nil part then Some 18446744073709551615 else number_of part

-- the parts after an empty one, which is what two dots have between them
abbrev pub after_gap : List (List ℕ) → Option (List (List ℕ))
after_gap [] = None
after_gap (part ∷ parts) = if is_nil part then Some parts else None

-- the first frame, two dots, and the first frame after them
unfoldable pub span_in : List (List ℕ) → Option (ℕ × ℕ)
span_in parts = do
  first ← number_at parts
  rest ← after_gap first.1
  end ← first_of_parts end_of rest
  if is_nil end.1 then Some (first.0, end.0) else None

abbrev pub span_of : List ℕ → Option (ℕ × ℕ)
span_of word = span_in (parts_of 46 word)

-- ---- by times in nanoseconds

-- the number that two digits are
abbrev pub two_digits : List ℕ → Option ℕ
two_digits [] = None
two_digits (a ∷ []) = None
two_digits (a ∷ (b ∷ [])) = if is_digit a && is_digit b then Some ((a - 48) * 10 + (b - 48)) else None
two_digits (a ∷ (b ∷ (c ∷ cs))) = None

-- hours, minutes and seconds as seconds
unfoldable pub clock_in : List (List ℕ) → Option ℕ
clock_in parts = do
  hours ← first_of_parts two_digits parts
  minutes ← first_of_parts two_digits hours.1
  seconds ← first_of_parts two_digits minutes.1
  if is_nil seconds.1 && (nat_lt minutes.0 60 && nat_lt seconds.0 60) then Some ((hours.0 * 60 + minutes.0) * 60 + seconds.0) else None

abbrev pub clock_of : List ℕ → Option ℕ
clock_of part = clock_in (parts_of 58 part)

-- the nanoseconds of a fraction of a second, by its one to nine digits
abbrev pub fraction_of : List ℕ → Option ℕ
fraction_of = worth_of 100000000 9

-- a time, with its fraction where there is one, and the parts after it
abbrev pub with_fraction : ℕ → List (List ℕ) → Option (ℕ × List (List ℕ))
with_fraction time [] = Some (time, [])
with_fraction time (part ∷ parts) = if is_nil part then Some (time, part ∷ parts) else option_map (λ more. (time + more, parts)) (fraction_of part)

unfoldable pub time_at : List (List ℕ) → Option (ℕ × List (List ℕ))
time_at [] = None
time_at (part ∷ parts) = clock_of part >>= λ seconds. with_fraction (seconds * 1000000000) parts

-- a time, or an empty part: then the range has no end
unfoldable pub end_time_at : List (List ℕ) → Option (Option ℕ × List (List ℕ))
end_time_at [] = None
end_time_at (part ∷ parts) = if is_nil part then Some (None, parts) else option_map (λ time. (Some time.0, time.1)) (time_at (part ∷ parts))

unfoldable pub times_in : List (List ℕ) → Option Range
times_in parts = do
  from ← time_at parts
  rest ← after_gap from.1
  to ← end_time_at rest
  if is_nil to.1 then Some (Times from.0 to.0) else None

abbrev pub times_of : List ℕ → Option Range
times_of word = times_in (parts_of 46 word)

-- ---- the range that a word is

abbrev pub range_by : Option (ℕ × ℕ) → List ℕ → Option Range
range_by (Some span) word = Some (Frames span.0 span.1)
range_by None word = times_of word

abbrev pub range_of : List ℕ → Option Range
range_of word = range_by (span_of word) word

-- ---- the frames of a range

-- the number of the first frame that isn't before a time, below 2 ^ 64: frame n is at n * seconds / frames
abbrev pub frame_at : Rate → ℕ → ℕ
frame_at rate time = min ((time * rate.frames + (rate.seconds * 1000000000 - 1)) / (rate.seconds * 1000000000)) 18446744073709551615

abbrev pub end_at : Rate → Option ℕ → ℕ
end_at rate None = 18446744073709551615
end_at rate (Some time) = frame_at rate time

-- the first frame and the first after them, where there is one
abbrev pub frames_from : ℕ → ℕ → Option (ℕ × ℕ)
frames_from first end = if nat_lt first end then Some (first, end) else None

-- the frames that a range is at a rate: those of times are the frames whose time is in the range, and there have to be some
abbrev pub frames_in : Option Rate → Range → Option (ℕ × ℕ)
frames_in rate (Frames first end) = Some (first, end)
frames_in None (Times from to) = None
frames_in (Some rate) (Times from to) = if (rate.frames == 0) || (rate.seconds == 0) then None else frames_from (frame_at rate from) (end_at rate to)

-- ---- the same without a division: frame n is at n * seconds / frames seconds

-- a frame isn't before a time in nanoseconds
abbrev pub IsFrom : Rate → ℕ → ℕ → Type 0
IsFrom rate time n = time * rate.frames ≤ n * (rate.seconds * 1000000000)

-- a frame is before the end of a range, where it has one
abbrev pub IsBefore : Rate → Option ℕ → ℕ → Type 0
IsBefore rate None n = ⊤
IsBefore rate (Some time) n = n * (rate.seconds * 1000000000) < time * rate.frames

-- a frame is one of these, from the first up to the first after them
abbrev pub IsAmong : Option (ℕ × ℕ) → ℕ → Type 0
IsAmong None n = ⊥
IsAmong (Some span) n = (span.0 ≤ n) × (n < span.1)

-- these are exactly the frames of a range: of times, all those whose time is in it, and no other. A rate has no number that is 0, and the number of each frame is below 2 ^ 64 - 1
abbrev pub AreExactly : Option Rate → Range → Option (ℕ × ℕ) → Type 0
AreExactly rate (Frames first end) found = found ≡ Some (first, end)
AreExactly None (Times from to) found = found ≡ None
AreExactly (Some rate) (Times from to) found = 0 < rate.frames → 0 < rate.seconds → (n : ℕ) → n < 18446744073709551615 → IsAmong found n ↔ (IsFrom rate from n × IsBefore rate to n)
