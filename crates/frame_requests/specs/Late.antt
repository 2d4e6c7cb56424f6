-- Pairs of edits: one that may show pixels, and a later one of the same frames that hides them.
use Rattle.std.specs.Prelude.{ℕ, ◌+◌, ◌&&◌, ◌||◌, Bool, true, false, not, List, [], ◌∷◌, ◌++◌, if◌then◌else◌, drop}
use Rattle.texts.specs.Reading.{is_nil}
use Rattle.image_commands.specs.Changes.{fills, spreads}
use Rattle.image_commands.specs.declared.changes.Change.{Change}
use Rattle.image_commands.specs.declared.changes.Change.TheVariants.{Mosaic, Mean, Blur, Move}
use Rattle.frame_edits.specs.Order.{may_meet}
use Rattle.frame_edits.specs.declared.paint.Paint.{Paint}
use Rattle.frame_edits.specs.declared.words.Edit.{Edit}
use Rattle.frame_requests.specs.declared.late.Hiding.{Hiding}
use Rattle.frame_requests.specs.declared.late.Hiding.TheVariants.{Fills, Mosaics, Means}
use Rattle.frame_requests.specs.declared.late.Numbered.{Numbered}

abbrev pub is_mosaic : Change Paint → Bool
is_mosaic (Mosaic w wide high) = true
is_mosaic _ = false

abbrev pub is_mean : Change Paint → Bool
is_mean (Mean w wide high bytes) = true
is_mean _ = false

abbrev pub is_move : Change Paint → Bool
is_move (Move w left top) = true
is_move _ = false

-- means, a blur or a move
abbrev pub mixes : Change Paint → Bool
mixes (Mean w wide high bytes) = true
mixes (Blur w across down bytes) = true
mixes (Move w left top) = true
mixes _ = false

-- what comes too early for covers and fills, for mosaics and for means
abbrev pub is_early : Hiding → Change Paint → Bool
is_early Fills change = spreads change
is_early Mosaics change = mixes change
is_early Means change = is_move change

abbrev pub hides : Hiding → Change Paint → Bool
hides Fills change = fills change
hides Mosaics change = is_mosaic change
hides Means change = is_mean change

-- a change that hides pixels so, of which the one before it may show something
unfoldable pub spoils : Hiding → Change Paint → Change Paint → Bool
spoils hiding before edit = is_early hiding before && hides hiding edit

-- the same of edits of which both may be for one frame
unfoldable pub is_late : Hiding → Edit → Edit → Bool
is_late hiding before edit = spoils hiding before.change edit.change && may_meet before.range edit.range

-- the pairs of an edit and those after it, the first of which has this number
unfoldable pub pairs_with : Hiding → ℕ → Edit → ℕ → List Edit → List (ℕ × ℕ)
pairs_with hiding number before first [] = []
pairs_with hiding number before first (e ∷ es) = if is_late hiding before e then (number, first) ∷ pairs_with hiding number before (first + 1) es else pairs_with hiding number before (first + 1) es

-- all pairs of edits, the first of which has this number
unfoldable pub pairs_from : Hiding → ℕ → List Edit → List (ℕ × ℕ)
pairs_from hiding number [] = []
pairs_from hiding number (e ∷ es) = pairs_with hiding number e (number + 1) es ++ pairs_from hiding (number + 1) es

-- the numbers of all such pairs, from 0
abbrev pub late_pairs : Hiding → List Edit → List (ℕ × ℕ)
late_pairs hiding steps = pairs_from hiding 0 steps

-- a note is due
abbrev pub is_noted : List Edit → Bool
is_noted steps = not (is_nil (late_pairs Fills steps)) || (not (is_nil (late_pairs Mosaics steps)) || not (is_nil (late_pairs Means steps)))

-- ---- as they are looked for

abbrev pub numbered : ℕ → Edit → Numbered
numbered number edit = record { number = number; edit = edit }

-- the edits that hide pixels so, the first of all having this number
unfoldable pub hiding_from : Hiding → ℕ → List Edit → List Numbered
hiding_from hiding first [] = []
hiding_from hiding first (e ∷ es) = if hides hiding e.change then numbered first e ∷ hiding_from hiding (first + 1) es else hiding_from hiding (first + 1) es

-- those of the later edits that are left after one of all
abbrev pub left_after : Hiding → Edit → List Numbered → List Numbered
left_after hiding e later = if hides hiding e.change then drop 1 later else later

-- the pairs of an edit and others
unfoldable pub pairs_among : Hiding → ℕ → Edit → List Numbered → List (ℕ × ℕ)
pairs_among hiding number before [] = []
pairs_among hiding number before (o ∷ os) = if is_late hiding before o.edit then (number, o.number) ∷ pairs_among hiding number before os else pairs_among hiding number before os
