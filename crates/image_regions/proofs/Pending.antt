-- Places that are pending: one is noted in a room, or taken off.
use Rattle.std.proofs.Common.{◌≡◌, ◌≢◌, true, false, Some, ℕ, ◌+◌, ◌-◌, ◌*◌, ◌/◌, ◌%◌, ◌<◌, ◌≤◌, zero, suc, Bool, List, [], ◌∷◌, ◌++◌, length, take, set, get_or, sym, ap, ◌∙◌, subst, arith, ⊎_elim}
use Rattle.std.specs.List.{Contains}
use Rattle.std.proofs.lemmas.Bool.{cases_Bool, cases_lt}
use Rattle.std.proofs.lemmas.Bool.Decides.{eqb_tells}
use Rattle.std.proofs.lemmas.Grind.{flat_map-append}
use Rattle.std.proofs.lemmas.List.{append-nil, append_assoc, get_or-set_same, get_or-set_other, take_more, take_more_set}
use Rattle.std.proofs.lemmas.List.Elements.{Contains-append_left, Contains-append_right, Contains-append_cases}
use Rattle.std.proofs.Math.Nat.{div-add-mod, mul-le-mul}
use Rattle.std.proofs.lemmas.Nat.{mod-mul-add, div-mul-add}
use Rattle.image_model.specs.Connected.{beside}
use Rattle.image_model.specs.Counts.{hits, place_hits, places_where, places_with}
use Rattle.image_model.specs.Grid.{grid_of, patch, uniform}
use Rattle.image_model.specs.Layout.{Layout}
use Rattle.image_model.proofs.Puts.{one_fewer_where}
use Rattle.imgref.specs.Words.{Fits, TellsApart, shape_height, shape_width, shaped}
use Rattle.image_regions.specs.declared.floods.Fill.{Fill}
use Rattle.image_regions.specs.Pending.{around, ArePlaces, CanFill, FillsPlaces, cell_grid, places_left}

-- ---- in a room

-- a place more is pending
around_more : (width : ℕ) (ns : List ℕ) (n : ℕ) → around width (ns ++ n ∷ []) ≡ around width ns ++ beside (n % width) (n / width)
unfolding around
around_more width ns n = flat_map-append (λ m. beside (m % width) (m / width)) ns (n ∷ []) ∙ ap (λ b. around width ns ++ b) (append-nil (beside (n % width) (n / width)))

-- the place is noted by its number
pub around_noted : (width : ℕ) (room : List ℕ) (count x y n : ℕ) → count < length room → x < width → n ≡ y * width + x → around width (take (count + 1) (set room count n)) ≡ around width (take count room) ++ beside x y
around_noted width room count x y n below column is =
    ap (around width) (take_more_set room count n below)
    ∙ around_more width (take count room) n
    ∙ ap (λ u. around width (take count room) ++ beside u (n / width)) (ap (λ m. m % width) is ∙ mod-mul-add y width x column)
    ∙ ap (λ v. around width (take count room) ++ beside x v) (ap (λ m. m / width) is ∙ div-mul-add y width x column)

-- no place is pending
pub around_none : (width : ℕ) (room : List ℕ) (count : ℕ) → count ≡ 0 → around width (take count room) ≡ []
unfolding around
around_none width room count none = ap (λ n. around width (take n room)) none

-- the last one is taken off
pub around_taken : (width : ℕ) (room : List ℕ) (count more : ℕ) → more ≡ count + 1 → count < length room → around width (take more room) ≡ around width (take count room) ++ beside (get_or room count 0 % width) (get_or room count 0 / width)
around_taken width room count more is below = ap (λ n. around width (take n room)) is ∙ ap (around width) (take_more room count 0 below) ∙ around_more width (take count room) (get_or room count 0)

-- the number of a place
pub places_noted : (places count n : ℕ) (room : List ℕ) → count < length room → n < places → ArePlaces places count room → ArePlaces places (count + 1) (set room count n)
places_noted places count n room below within before k k_below = ⊎_elim
    (λ s. subst (λ m. m < places) (sym (ap (λ i. get_or (set room count n) i 0) s.1 ∙ get_or-set_same room count n 0 below)) within)
    (λ o. subst (λ m. m < places) (sym (get_or-set_other room count k n 0 o.1)) (before k (omega (arith, k_below, o.1))))
    (eqb_tells k count)

pub number_within : (width height x y n : ℕ) → x < width → y < height → n ≡ y * width + x → n < width * height
number_within width height x y n column line is =
    let lines : (y + 1) * width ≤ height * width = mul-le-mul (omega (arith, line)) (omega arith) in
    omega (arith, is, column, lines)

-- the row of a place's number
pub row_within : (width height n : ℕ) → n < width * height → n / width < height
row_within width height n inside = ⊎_elim
    (λ low. low)
    (λ high.
    let rows : height * width ≤ (n / width) * width = mul-le-mul high (omega arith) in
    absurd (omega (arith, inside, rows, div-add-mod n width)))
    (cases_lt (n / width) height)

-- ---- lists in another order

-- the last two parts of a list change places
pub parts_swapped : {X : Type 0} (a b c : List X) (p : X) → Contains (a ++ b ++ c) p → Contains (a ++ c ++ b) p
parts_swapped a b c p listed = ⊎_elim
    (λ first. ⊎_elim
    (λ in_a. Contains-append_left (a ++ c) b p (Contains-append_left a c p in_a))
    (λ in_b. Contains-append_right (a ++ c) b p in_b)
    (Contains-append_cases a b p first))
    (λ in_c. Contains-append_left (a ++ c) b p (Contains-append_right a c p in_c))
    (Contains-append_cases (a ++ b) c p listed)

-- the places beside one, of which the last is looked at first
module _ (x y s t : ℕ) (up : s ≡ y - 1) (back : t ≡ x - 1) where
  beside_parts : (a : List (ℕ × ℕ)) → a ++ beside x y ≡ a ++ ((x + 1, y) ∷ (x, y + 1) ∷ (t, y) ∷ []) ++ (x, s) ∷ []
  beside_parts a =
      ap (λ v. a ++ ((x + 1, y) ∷ (x, y + 1) ∷ (x - 1, y) ∷ (x, v) ∷ [])) (sym up)
      ∙ ap (λ u. a ++ ((x + 1, y) ∷ (x, y + 1) ∷ (u, y) ∷ (x, s) ∷ [])) (sym back)
      ∙ sym (append_assoc a ((x + 1, y) ∷ (x, y + 1) ∷ (t, y) ∷ []) ((x, s) ∷ []))

  -- what holds while places have to be looked at holds when all four have been
  pub four_looked : (A B C D E : List (ℕ × ℕ) → Type 0) (a b c d e : List (ℕ × ℕ))
      → ((rest : List (ℕ × ℕ)) → A (a ++ rest ++ (x, s) ∷ []) → B (b ++ rest))
      → ((rest : List (ℕ × ℕ)) → B (b ++ rest ++ (t, y) ∷ []) → C (c ++ rest))
      → ((rest : List (ℕ × ℕ)) → C (c ++ rest ++ (x, y + 1) ∷ []) → D (d ++ rest))
      → ((rest : List (ℕ × ℕ)) → D (d ++ rest ++ (x + 1, y) ∷ []) → E (e ++ rest))
      → A (a ++ beside x y) → E e
  four_looked A B C D E a b c d e above before below after f =
      let right = (x + 1, y) ∷ [] in
      let two = (x + 1, y) ∷ (x, y + 1) ∷ [] in
      let three = (x + 1, y) ∷ (x, y + 1) ∷ (t, y) ∷ [] in
      let f1 = above three (subst A (beside_parts a) f) in
      let f2 = before two (subst B (sym (append_assoc b two ((t, y) ∷ []))) f1) in
      let f3 = below right (subst C (sym (append_assoc c right ((x, y + 1) ∷ []))) f2) in
      let f4 = after [] (subst D (ap (λ p. p ++ right) (sym (append-nil d))) f3) in
      subst E (append-nil e) f4

-- ---- how many places there are

hits_bound : (test : ℕ → Bool) (n : ℕ) → hits test n ≤ n
hits_bound test zero = omega arith
hits_bound test (suc n) = ⊎_elim (λ t. grind (arith, hits_bound test n, t)) (λ f. grind (arith, hits_bound test n, f)) (cases_Bool (test n))

-- no more places pass a test than there are
place_hits_bound : (test : ℕ → ℕ → Bool) (width n : ℕ) → place_hits test width n ≤ width * n
place_hits_bound test width zero = omega arith
place_hits_bound test width (suc n) = omega (arith, place_hits_bound test width n, hits_bound (λ x. test x n) width)

pub places_where_bound : {T : Type 0} (test : T → Bool) (l : Layout T) → places_where test (grid_of l) ≤ l.width * l.height
unfolding grid_of places_where
places_where_bound test l = place_hits_bound _ l.width l.height

pub places_with_bound : (value : ℕ) (l : Layout ℕ) → places_with value (grid_of l) ≤ l.width * l.height
unfolding grid_of places_with
places_with_bound value l = place_hits_bound _ l.width l.height

-- ---- a fill

module _ {T : Type 0} (fill : Fill T) (eq : T → T → Bool) where
  -- a place that shows the seed gets the value
  pub one_filled : TellsApart eq → fill.seed ≢ fill.value → (cells : List T) (x y : ℕ) (p : T) → (cell_grid fill cells).pixel x y ≡ Some p → eq p fill.seed ≡ true
      → places_where (λ q. eq q fill.seed) (patch (cell_grid fill cells) x y (uniform 1 1 fill.value)) + 1 ≡ places_left fill eq cells
  one_filled tells other cells x y p shown same =
      let fails : eq fill.value fill.seed ≡ false = ⊎_elim (λ e. absurd (other (sym ((tells fill.value fill.seed).0 e)))) (λ e. e) (cases_Bool (eq fill.value fill.seed)) in
      one_fewer_where (λ q. eq q fill.seed) (shaped cells fill.shape) x y p fill.value shown same fails

  -- no place is pending yet
  pub can_begin : (cells : List T) (room : List ℕ) → Fits (shaped cells fill.shape) → TellsApart eq → fill.seed ≢ fill.value → shape_width fill.shape * shape_height fill.shape ≤ length room → CanFill fill eq cells 0 room
  can_begin cells room fits tells other enough = record {
    fits = fits;
    tells = tells;
    other = other;
    enough = omega (arith, enough, places_where_bound (λ p. eq p fill.seed) (shaped cells fill.shape));
    places = λ k none. absurd (omega (arith, none));
  }

  -- one is taken off
  pub one_taken : (cells : List T) (count : ℕ) (room : List ℕ) → CanFill fill eq cells count room → CanFill fill eq cells (count - 1) room
  one_taken cells count room can = record {
    fits = can.fits;
    tells = can.tells;
    other = can.other;
    enough = omega (arith, can.enough);
    places = λ k below. can.places k (omega (arith, below));
  }

  -- after a step the next one is possible
  pub can_go_on : (a : List T) (i : ℕ) (p : List ℕ) (b : List T) (j : ℕ) (q : List ℕ) → CanFill fill eq a i p → FillsPlaces fill eq a i p b j q → CanFill fill eq b j q
  can_go_on a i p b j q can one = record {
    fits = one.fits;
    tells = can.tells;
    other = can.other;
    enough = omega (arith, can.enough, one.fewer, one.room);
    places = one.places;
  }
