-- Ranges of frames that an input doesn't reach.
use Rattle.std.specs.Prelude.{ℕ, ◌||◌, ◌&&◌, ◌==◌, Bool, nat_lt, if◌then◌else◌, Option, Some, None}
use Rattle.std.specs.Option.{is_some}
use Rattle.frame_texts.specs.Ranges.{frames_in}
use Rattle.frame_texts.specs.declared.rate.Rate.{Rate}
use Rattle.frame_edits.specs.declared.words.Edit.{Edit}

-- frames, where an input of so many ends before the first of them; all frames are those that there are
abbrev pub beyond : ℕ → Option (ℕ × ℕ) → Option (ℕ × ℕ)
beyond count None = None
beyond count (Some span) = if nat_lt span.0 count || (span.0 == 0 && span.1 == 18446744073709551615) then None else Some span

-- the same of the frames of an edit
abbrev pub unreached : ℕ → Option Rate → Edit → Option (ℕ × ℕ)
unreached count rate e = beyond count (frames_in rate e.range)

abbrev pub is_unreached : ℕ → Option Rate → Edit → Bool
is_unreached count rate e = is_some (unreached count rate e)
