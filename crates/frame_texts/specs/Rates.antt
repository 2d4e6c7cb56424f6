-- The rate that a video's line names.
use Rattle.std.specs.Prelude.{ℕ, ◌^◌, ◌&&◌, nat_lt, if◌then◌else◌, List, [], ◌∷◌, Option, Some, None}
use Rattle.texts.specs.Parts.{parts_of}
use Rattle.texts.specs.Reading.{◌>>=◌, number_at, is_nil}
use Rattle.frame_texts.specs.Format.{tagged}
use Rattle.frame_texts.specs.declared.rate.Rate.{Rate}

-- ---- the rate of a video

-- so many frames in so many seconds
unfoldable pub rate_in : List (List ℕ) → Option Rate
rate_in parts = do
  frames ← number_at parts
  seconds ← number_at frames.1
  if is_nil seconds.1 && (nat_lt frames.0 (2 ^ 32) && nat_lt seconds.0 (2 ^ 32)) then Some (record { frames = frames.0; seconds = seconds.0 }) else None

abbrev pub rate_after : List (List ℕ) → Option Rate
rate_after [] = None
rate_after (word ∷ fields) = tagged 70 fields >>= λ text. rate_in (parts_of 58 text)

-- the rate that a line names
abbrev pub rate_of : List ℕ → Option Rate
rate_of line = rate_after (parts_of 32 line)
