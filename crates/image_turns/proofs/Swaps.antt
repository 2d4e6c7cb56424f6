-- Rows that change places.
use Rattle.std.proofs.Common.{◌≡◌, ℕ, ◌+◌, ◌-◌, ◌<◌, ◌≤◌, List, ◌++◌, length, take, drop, sym, ap, ◌∙◌, arith, length-append, length-take, length-drop}
use Rattle.std.specs.List.{slice_get}
use Rattle.image_model.specs.Swaps.{StretchesSwapped}
use Rattle.image_model.proofs.Cells.{slice_get-take, slice_get-drop, slice_get-append_left, slice_get-append_right}

-- two parts of a list in which a stretch of the first and the beginning of the second changed places
module _ {T : Type 0} (old : List T) (first second len : ℕ) (apart : first + len ≤ second) (inside : second + len ≤ length old) where
  abbrev front : List T
  front = take second old

  abbrev back : List T
  back = drop second old

  abbrev upper : List T
  upper = take (first + len - first) (drop first front)

  abbrev lower : List T
  lower = take len back

  abbrev behind : List T
  behind = drop (first + len - first) (drop first front)

  abbrev one : List T
  one = take first front ++ (lower ++ behind)

  abbrev two : List T
  two = upper ++ drop len back

  long_front : length front ≡ second
  long_front = omega (arith, length-take second old)

  long_back : length back + second ≡ length old
  long_back = omega (arith, length-drop second old)

  long_lower : length lower ≡ len
  long_lower = omega (arith, length-take len back, long_back)

  long_upper : length upper ≡ len
  long_upper = omega (arith, length-take (first + len - first) (drop first front), length-drop first front, long_front)

  long_ahead : length (take first front) ≡ first
  long_ahead = omega (arith, length-take first front, long_front)

  long_behind : length behind + (first + len) ≡ second
  long_behind = omega (arith, length-drop (first + len - first) (drop first front), length-drop first front, long_front)

  long_one : length one ≡ second
  long_one = omega (arith, length-append (take first front) (lower ++ behind), length-append lower behind, long_ahead, long_lower, long_behind)

  in_front : (k : ℕ) → k < second → slice_get front k ≡ slice_get old k
  in_front k here = slice_get-take second old k here

  pub swapped : StretchesSwapped old (one ++ two) first second len
  swapped = record {
    as_many = omega (arith, length-append one two, length-append upper (drop len back), length-drop len back, long_one, long_upper, long_back);
    first_is = λ k here.
        slice_get-append_left one two (first + k) (omega (arith, long_one))
        ∙ slice_get-append_right (take first front) (lower ++ behind) first k long_ahead
        ∙ slice_get-append_left lower behind k (omega (arith, long_lower))
        ∙ slice_get-take len back k here
        ∙ slice_get-drop second old k;
    second_is = λ k here.
        slice_get-append_right one two second k long_one
        ∙ slice_get-append_left upper (drop len back) k (omega (arith, long_upper))
        ∙ slice_get-take (first + len - first) (drop first front) k (omega arith)
        ∙ slice_get-drop first front k
        ∙ in_front (first + k) (omega arith);
    before = λ k here.
        slice_get-append_left one two k (omega (arith, long_one))
        ∙ slice_get-append_left (take first front) (lower ++ behind) k (omega (arith, long_ahead))
        ∙ slice_get-take first front k here
        ∙ in_front k (omega arith);
    between = λ k above here.
        let at : first + (len + (k - (first + len))) ≡ k = omega arith in
        let there : first + (first + len - first + (k - (first + len))) ≡ k = omega arith in
        slice_get-append_left one two k (omega (arith, long_one))
        ∙ sym (ap (slice_get one) at)
        ∙ slice_get-append_right (take first front) (lower ++ behind) first (len + (k - (first + len))) long_ahead
        ∙ slice_get-append_right lower behind len (k - (first + len)) long_lower
        ∙ slice_get-drop (first + len - first) (drop first front) (k - (first + len))
        ∙ slice_get-drop first front (first + len - first + (k - (first + len)))
        ∙ ap (slice_get front) there
        ∙ in_front k here;
    after = λ k above.
        let at : second + (len + (k - (second + len))) ≡ k = omega arith in
        sym (ap (slice_get (one ++ two)) at)
        ∙ slice_get-append_right one two second (len + (k - (second + len))) long_one
        ∙ slice_get-append_right upper (drop len back) len (k - (second + len)) long_upper
        ∙ slice_get-drop len back (k - (second + len))
        ∙ slice_get-drop second old (len + (k - (second + len)))
        ∙ ap (slice_get old) at;
  }
