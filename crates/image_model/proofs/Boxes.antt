-- The box around the places with one value, place by place.
use Rattle.std.proofs.Common.{◌≡◌, ℕ, zero, suc, ◌+◌, ◌-◌, ◌<◌, ◌≤◌, Bool, true, false, min, Option, Some, None, refl, sym, ap, subst, ◌∙◌, arith, ⊎_elim, add-one, if◌then◌else◌}
use Rattle.std.specs.Option.{option_map_or}
use Rattle.std.proofs.lemmas.Bool.{cases_Bool, cond-true, cond-false, true≢false}
use Rattle.std.proofs.lemmas.Bool.Decides.{nat_tests}
use Rattle.image_model.specs.Layout.{Layout, pixel}
use Rattle.image_model.specs.Grid.{grid_of}
use Rattle.image_model.specs.Tables.{is_before}
use Rattle.image_model.specs.Regions.{TellsApart}
use Rattle.image_model.specs.Windows.{Window, window}
use Rattle.image_model.specs.Boxes.{IsNowhere, IsBoundingBox, Sides, sides, shows, with_place, sides_upto, sides_of}
use Rattle.image_model.proofs.Folds.{fold_none, fold_next, fold_row_ends}
use Rattle.image_model.proofs.Grids.{pixel_at}
use Rattle.image_model.proofs.Reading.{is_a_place}

-- ---- the test of a pixel

-- a pixel passes, where a place shows the value
test_passes : {T : Type 0} (test : T → Bool) (o : Option T) → option_map_or test o false ≡ true → (p : T) × (o ≡ Some p) × (test p ≡ true)
test_passes test None holds = absurd (cc holds)
test_passes test (Some p) holds = (p, refl, holds)

module _ {T : Type 0} (eq : T → T → Bool) (l : Layout T) (value : T) where
  -- ---- one step of the loop

  -- no place yet
  pub box_none : sides_upto eq l value 0 0 ≡ sides l.width l.height 0 0
  unfolding sides_upto
  box_none = fold_none _ _ _

  abbrev step : Sides → ℕ → ℕ → Sides
  step s u v = if shows eq l value u v then with_place s u v else s

  next : (x y : ℕ) → sides_upto eq l value (x + 1) y ≡ step (sides_upto eq l value x y) x y
  unfolding sides_upto
  next x y = fold_next step (sides l.width l.height 0 0) l.width x y

  -- one place more, with the value
  pub box_more : (x y : ℕ) (p : T) → pixel l x y ≡ Some p → eq p value ≡ true → sides_upto eq l value (x + 1) y ≡ with_place (sides_upto eq l value x y) x y
  box_more x y p there holds = next x y ∙ cond-true (shows eq l value x y) _ _ (ap (λ o. option_map_or (λ q. eq q value) o false) there ∙ holds)

  -- one place more, without it
  pub box_skip : (x y : ℕ) (p : T) → pixel l x y ≡ Some p → eq p value ≡ false → sides_upto eq l value (x + 1) y ≡ sides_upto eq l value x y
  box_skip x y p there fails = next x y ∙ cond-false (shows eq l value x y) _ _ (ap (λ o. option_map_or (λ q. eq q value) o false) there ∙ fails)

  -- a row is at its end where the next one begins
  pub box_row_ends : (x y : ℕ) → x ≡ l.width → sides_upto eq l value x y ≡ sides_upto eq l value 0 (y + 1)
  unfolding sides_upto
  box_row_ends x y wide = fold_row_ends step (sides l.width l.height 0 0) l.width x y wide

  -- ---- what the sides say

  -- the box has each place with the value that has passed
  abbrev AreBetween : ℕ → ℕ → Sides → Type 0
  AreBetween x y s = (u v : ℕ) (p : T) → is_before x y u v ≡ true → (grid_of l).pixel u v ≡ Some p → eq p value ≡ true → (s.left ≤ u) × (u < s.right) × (s.top ≤ v) × (v < s.bottom)

  -- and is the least one that does
  record IsBoxUpto (x y : ℕ) (s : Sides) : Type 0 where
    between : AreBetween x y s
    least : (t : Sides) → AreBetween x y t → (min t.left l.width ≤ s.left) × (min t.top l.height ≤ s.top) × (s.right ≤ t.right) × (s.bottom ≤ t.bottom)
    in_width : s.right ≤ l.width
    in_height : s.bottom ≤ l.height
    some_column : 0 < s.right → s.left < s.right
    some_row : 0 < s.right → s.top < s.bottom

  still_before : (x y u v : ℕ) → is_before x y u v ≡ true → is_before (x + 1) y u v ≡ true
  still_before x y u v before = grind (arith, nat_tests, before)

  last_place : (x y u v : ℕ) → is_before (x + 1) y u v ≡ true → is_before x y u v ≡ false → (u ≡ x) × (v ≡ y)
  last_place x y u v before later = grind (arith, nat_tests, before, later)

  with_value : (x y : ℕ) (s : Sides) (p : T) → IsBoxUpto x y s → x < l.width → y < l.height → pixel l x y ≡ Some p → eq p value ≡ true → IsBoxUpto (x + 1) y (with_place s x y)
  with_value x y s p so column line there holds = record {
    between = λ u v q before shown same.
        ⊎_elim
        (λ earlier. let old = so.between u v q earlier shown same in (omega (arith, old), omega (arith, old), omega (arith, old), omega (arith, old)))
        (λ later. let here = last_place x y u v before later in (omega (arith, here), omega (arith, here), omega (arith, here), omega (arith, here)))
        (cases_Bool (is_before x y u v));
    least = λ t between.
        let old = so.least t (λ u v q before shown same. between u v q (still_before x y u v before) shown same) in
        let here = between x y p (grind (arith, nat_tests)) (pixel_at l x y column line ∙ there) holds in
        (omega (arith, old, here), omega (arith, old, here), omega (arith, old, here), omega (arith, old, here));
    in_width = omega (arith, so.in_width, column);
    in_height = omega (arith, so.in_height, line);
    some_column = λ some. omega arith;
    some_row = λ some. omega arith;
  }

  without_value : (x y : ℕ) (s : Sides) → IsBoxUpto x y s → x < l.width → y < l.height → shows eq l value x y ≡ false → IsBoxUpto (x + 1) y s
  without_value x y s so column line fails = record {
    between = λ u v q before shown same.
        ⊎_elim
        (λ earlier. so.between u v q earlier shown same)
        (λ later.
        let here = last_place x y u v before later in
        let there : pixel l x y ≡ Some q = sym (pixel_at l x y column line) ∙ ap (λ k. (grid_of l).pixel k y) (sym here.0) ∙ ap (λ k. (grid_of l).pixel u k) (sym here.1) ∙ shown in
        absurd (true≢false (sym (ap (λ o. option_map_or (λ r. eq r value) o false) there ∙ same) ∙ fails)))
        (cases_Bool (is_before x y u v));
    least = λ t between. so.least t (λ u v q before shown same. between u v q (still_before x y u v before) shown same);
    in_width = so.in_width;
    in_height = so.in_height;
    some_column = so.some_column;
    some_row = so.some_row;
  }

  row_end : (y : ℕ) (s : Sides) → IsBoxUpto l.width y s → IsBoxUpto 0 (y + 1) s
  row_end y s so = record {
    between = λ u v q before shown same. let place = is_a_place l u v q shown in so.between u v q (grind (arith, nat_tests, before, place)) shown same;
    least = λ t between. so.least t (λ u v q before shown same. between u v q (grind (arith, nat_tests, before)) shown same);
    in_width = so.in_width;
    in_height = so.in_height;
    some_column = so.some_column;
    some_row = so.some_row;
  }

  first_row : IsBoxUpto 0 0 (sides_upto eq l value 0 0)
  first_row = subst (IsBoxUpto 0 0) (sym box_none) (record {
    between = λ u v q before shown same. absurd (grind (arith, nat_tests, before));
    least = λ t between. (omega arith, omega arith, omega arith, omega arith);
    in_width = omega arith;
    in_height = omega arith;
    some_column = λ some. omega arith;
    some_row = λ some. omega arith;
  })

  columns : (y : ℕ) → y < l.height → IsBoxUpto 0 y (sides_upto eq l value 0 y) → (x : ℕ) → x ≤ l.width → IsBoxUpto x y (sides_upto eq l value x y)
  columns y line so zero wide = so
  columns y line so (suc x) wide =
      let was = columns y line so x (omega (arith, wide)) in
      let on = add-one x in
      subst (λ n. IsBoxUpto n y (sides_upto eq l value n y)) on (⊎_elim
      (λ holds.
      let here = test_passes (λ p. eq p value) (pixel l x y) holds in
      subst (IsBoxUpto (x + 1) y) (sym (box_more x y here.0 here.1 here.2)) (with_value x y (sides_upto eq l value x y) here.0 was (omega (arith, wide)) line here.1 here.2))
      (λ fails. subst (IsBoxUpto (x + 1) y) (sym (next x y ∙ cond-false (shows eq l value x y) _ _ fails)) (without_value x y (sides_upto eq l value x y) was (omega (arith, wide)) line fails))
      (cases_Bool (shows eq l value x y)))

  rows : (y : ℕ) → y ≤ l.height → IsBoxUpto 0 y (sides_upto eq l value 0 y)
  rows zero high = first_row
  rows (suc y) high =
      let whole = columns y (omega (arith, high)) (rows y (omega (arith, high))) l.width (omega arith) in
      subst (λ n. IsBoxUpto 0 n (sides_upto eq l value 0 n)) (add-one y) (subst (IsBoxUpto 0 (y + 1)) (box_row_ends l.width y refl) (row_end y (sides_upto eq l value l.width y) whole))

  all : IsBoxUpto 0 l.height (sides_of eq l value)
  unfolding sides_of
  all = rows l.height (omega arith)

  passed : (u v : ℕ) (p : T) → (grid_of l).pixel u v ≡ Some p → is_before 0 l.height u v ≡ true
  passed u v p shown = let place = is_a_place l u v p shown in grind (arith, nat_tests, place)

  -- the last row has passed
  pub box_done : (y : ℕ) → y ≡ l.height → sides_upto eq l value 0 y ≡ sides_of eq l value
  unfolding sides_of
  box_done y last = ap (sides_upto eq l value 0) last

  -- the box ends within the image, and begins before it ends where there is a place
  pub box_in_width : (sides_of eq l value).right ≤ l.width
  box_in_width = all.in_width

  pub box_in_height : (sides_of eq l value).bottom ≤ l.height
  box_in_height = all.in_height

  pub box_columns : 0 < (sides_of eq l value).right → (sides_of eq l value).left < (sides_of eq l value).right
  box_columns some = all.some_column some

  pub box_rows : 0 < (sides_of eq l value).right → (sides_of eq l value).top < (sides_of eq l value).bottom
  box_rows some = all.some_row some

  -- it is that of all places
  pub box_all : TellsApart eq → (w : Window) → w.left ≡ (sides_of eq l value).left → w.top ≡ (sides_of eq l value).top → w.left + w.width ≡ (sides_of eq l value).right → w.top + w.height ≡ (sides_of eq l value).bottom → 0 < w.width
      → IsBoundingBox (grid_of l) value w
  box_all tells w left top right bottom some = record {
    has_all = λ u v shown. let inside = all.between u v value (passed u v value shown) shown ((tells value value).1 refl) in (omega (arith, inside, left), omega (arith, inside, right), omega (arith, inside, top), omega (arith, inside, bottom));
    least = λ v has_all.
        let old = all.least (sides v.left v.top (v.left + v.width) (v.top + v.height)) (λ i j p before shown same. has_all i j (shown ∙ ap Some ((tells p value).0 same))) in
        let column = all.some_column (omega (arith, some, right)) in
        let line = all.some_row (omega (arith, some, right)) in
        (omega (arith, old, column, all.in_width, left), omega (arith, old, right), omega (arith, old, line, all.in_height, top), omega (arith, old, bottom));
  }

  -- as a window, from what the loop ends with
  pub box_window : TellsApart eq → (y left top right bottom : ℕ) → sides_upto eq l value 0 y ≡ sides left top right bottom → y ≡ l.height → 0 < right → (w : Window) → w ≡ window left top (right - left) (bottom - top) → IsBoundingBox (grid_of l) value w
  box_window tells y left top right bottom so last some w is =
      let whole = sym (box_done y last) ∙ so in
      let from_column = ap (λ (s : Sides). s.left) whole in
      let from_row = ap (λ (s : Sides). s.top) whole in
      let to_column = ap (λ (s : Sides). s.right) whole in
      let to_row = ap (λ (s : Sides). s.bottom) whole in
      let is_left = ap (λ (v : Window). v.left) is in
      let is_top = ap (λ (v : Window). v.top) is in
      let is_width = ap (λ (v : Window). v.width) is in
      let is_height = ap (λ (v : Window). v.height) is in
      let column = box_columns (omega (arith, some, to_column)) in
      let line = box_rows (omega (arith, some, to_column)) in
      box_all tells w (is_left ∙ sym from_column) (is_top ∙ sym from_row) (omega (arith, is_left, is_width, from_column, to_column, column)) (omega (arith, is_top, is_height, from_row, to_row, line)) (omega (arith, is_width, from_column, to_column, column))

  -- or no place shows the value
  pub box_of_nothing : TellsApart eq → (sides_of eq l value).right ≡ 0 → IsNowhere (grid_of l) value
  box_of_nothing tells none = record { nowhere = λ u v shown. let inside = all.between u v value (passed u v value shown) shown ((tells value value).1 refl) in omega (arith, inside, none) }

-- these laws, for the `using` of a caller's loop, and for what comes after it
pub ruleset boxes = (box_none, box_more, box_skip, box_row_ends)

pub ruleset whole_box = (box_done, box_in_width, box_in_height, box_columns, box_rows, box_all, box_of_nothing)
