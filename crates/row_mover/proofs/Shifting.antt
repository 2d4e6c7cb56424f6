-- The cells after a shift, one by one.
use Rattle.std.proofs.Common.{◌≡◌, ℕ, ◌+◌, ◌<◌, ◌≤◌, ◌⊎◌, List, ◌++◌, length, take, drop, get_or, arith, length-append, length-take, length-drop}
use Rattle.std.specs.List.{slice_get}
use Rattle.std.proofs.lemmas.List.{get_or_append_left, get_or-append_right, get_or-take, get_or-drop}
use Rattle.std.proofs.lemmas.Option.{slice_get_cases, slice_get_past}
use Rattle.image_model.specs.Shifts.{shifted}
use Rattle.image_model.proofs.Pixels.{same_cell}

module _ {T : Type 0} (cells : List T) (start len target : ℕ) (source_inside : start + len ≤ length cells) (target_inside : target + len ≤ length cells) where
  abbrev before : List T
  before = take target cells

  abbrev moved : List T
  moved = take len (drop start cells)

  length-before : length before ≡ target
  length-before = omega (arith, length-take target cells)

  length-moved : length moved ≡ len
  length-moved = omega (arith, length-take len (drop start cells), length-drop start cells)

  length-front : length (before ++ moved) ≡ target + len
  length-front = omega (arith, length-append before moved, length-before, length-moved)

  -- a shift keeps the length
  length-shifted : length (shifted cells start len target) ≡ length cells
  length-shifted = omega (arith, length-append (before ++ moved) (drop (target + len) cells), length-front, length-drop (target + len) cells)

  read_target : (j : ℕ) (d : T) → j < len → get_or (shifted cells start len target) (target + j) d ≡ get_or cells (start + j) d
  read_target j d lt = grind (arith, get_or_append_left, length-front, get_or-append_right, length-before, get_or-take, get_or-drop)

  read_before : (k : ℕ) (d : T) → k < target → get_or (shifted cells start len target) k d ≡ get_or cells k d
  read_before k d lt = grind (arith, get_or_append_left, length-front, length-before, get_or-take)

  read_behind : (k : ℕ) (d : T) → target + len ≤ k → get_or (shifted cells start len target) k d ≡ get_or cells k d
  read_behind k d le = grind (arith, get_or-append_right, length-front, get_or-drop)

  -- the target's cells are the old ones of the source
  pub shifted_at_target : (j : ℕ) → j < len → slice_get (shifted cells start len target) (target + j) ≡ slice_get cells (start + j)
  shifted_at_target j lt = grind (arith, same_cell, length-shifted, read_target)

  -- every other cell stays
  pub shifted_elsewhere : (k : ℕ) → (k < target) ⊎ (target + len ≤ k) → slice_get (shifted cells start len target) k ≡ slice_get cells k
  shifted_elsewhere k outside = grind (arith, slice_get_cases, same_cell, length-shifted, read_before, read_behind, slice_get_past)
