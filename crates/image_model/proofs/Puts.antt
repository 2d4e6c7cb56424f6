-- One pixel put: what each place shows then, and how many places still show a value.
use Rattle.std.proofs.Common.{zero, suc, ◌≡◌, ◌≢◌, ℕ, ◌+◌, ◌<◌, ◌⊎◌, inl, inr, Bool, true, false, Option, Some, refl, sym, ap, ◌∙◌, arith, ⊎_elim, if◌then◌else◌}
use Rattle.std.proofs.lemmas.Bool.Decides.{eqb_tells, nat_tests}
use Rattle.image_model.specs.Layout.{Layout}
use Rattle.image_model.specs.Grid.{grid_of, patch, uniform}
use Rattle.image_model.proofs.Patches.{put_pixel, beside_patch}
use Rattle.image_model.proofs.Reading.{is_a_place}
use Rattle.std.specs.Option.{option_map_or}
use Rattle.image_model.specs.Counts.{is_value, hits, place_hits, places_with, places_where}

-- a place shows what it showed, or it is the one that was put and shows the value
pub put_cases : {T : Type 0} (l : Layout T) (x y : ℕ) (value : T) → x < l.width → y < l.height → (u v : ℕ)
    → ((patch (grid_of l) x y (uniform 1 1 value)).pixel u v ≡ (grid_of l).pixel u v) ⊎ ((u ≡ x) × (v ≡ y) × ((patch (grid_of l) x y (uniform 1 1 value)).pixel u v ≡ Some value))
unfolding uniform
put_cases l x y value column line u v = ⊎_elim
    (λ s. ⊎_elim
    (λ t. inr (s.1, t.1, ap (λ i. (patch (grid_of l) x y (uniform 1 1 value)).pixel i v) s.1 ∙ ap (λ j. (patch (grid_of l) x y (uniform 1 1 value)).pixel x j) t.1 ∙ put_pixel l x y value column line))
    (λ t. inl (beside_patch l x y (uniform 1 1 value) u v (grind (arith, t))))
    (eqb_tells v y))
    (λ s. inl (beside_patch l x y (uniform 1 1 value) u v (grind (arith, s))))
    (eqb_tells u x)

-- ---- how many places show a value

-- tests that agree below n pass as often there
hits_alike : (f g : ℕ → Bool) (n : ℕ) → ((i : ℕ) → i < n → f i ≡ g i) → hits f n ≡ hits g n
hits_alike f g zero same = refl
hits_alike f g (suc n) same =
    let rest = hits_alike f g n (λ i below. same i (omega (arith, below))) in
    let one = same n (omega arith) in
    ap (λ m. m + (if f n then 1 else 0)) rest ∙ ap (λ b. hits g n + (if b then 1 else 0)) one

-- one number fewer passes
one_hit_fewer : (f g : ℕ → Bool) (x n : ℕ) → x < n → f x ≡ true → g x ≡ false → ((i : ℕ) → i ≢ x → f i ≡ g i) → hits f n ≡ hits g n + 1
one_hit_fewer f g x zero below hit miss same = absurd (omega (arith, below))
one_hit_fewer f g x (suc n) below hit miss same = ⊎_elim
    (λ s.
    let rest : hits f n ≡ hits g n = hits_alike f g n (λ i b. same i (omega (arith, b, s))) in
    let now : f n ≡ true = ap f (sym s.1) ∙ hit in
    let then_ : g n ≡ false = ap g (sym s.1) ∙ miss in
    grind (arith, rest, now, then_))
    (λ o.
    let rest : hits f n ≡ hits g n + 1 = one_hit_fewer f g x n (omega (arith, below, o)) hit miss same in
    let now : f n ≡ g n = same n (λ e. o.1 (sym e)) in
    grind (arith, rest, now))
    (eqb_tells x n)

-- the same for places
place_hits_alike : (f g : ℕ → ℕ → Bool) (w n : ℕ) → ((u v : ℕ) → v < n → f u v ≡ g u v) → place_hits f w n ≡ place_hits g w n
place_hits_alike f g w zero same = refl
place_hits_alike f g w (suc n) same =
    let rest = place_hits_alike f g w n (λ u v below. same u v (omega (arith, below))) in
    let one = hits_alike (λ u. f u n) (λ u. g u n) w (λ u _. same u n (omega arith)) in
    ap (λ m. m + hits (λ u. f u n) w) rest ∙ ap (λ m. place_hits g w n + m) one

one_place_fewer : (f g : ℕ → ℕ → Bool) (x y w n : ℕ) → x < w → y < n → f x y ≡ true → g x y ≡ false → ((u v : ℕ) → (u ≢ x) ⊎ (v ≢ y) → f u v ≡ g u v) → place_hits f w n ≡ place_hits g w n + 1
one_place_fewer f g x y w zero column line hit miss same = absurd (omega (arith, line))
one_place_fewer f g x y w (suc n) column line hit miss same = ⊎_elim
    (λ s.
    let rest : place_hits f w n ≡ place_hits g w n = place_hits_alike f g w n (λ u v b. same u v (inr (omega (arith, b, s)))) in
    let one : hits (λ u. f u n) w ≡ hits (λ u. g u n) w + 1 = one_hit_fewer (λ u. f u n) (λ u. g u n) x w column (ap (f x) (sym s.1) ∙ hit) (ap (g x) (sym s.1) ∙ miss) (λ i o. same i n (inl o)) in
    omega (arith, rest, one))
    (λ o.
    let rest : place_hits f w n ≡ place_hits g w n + 1 = one_place_fewer f g x y w n column (omega (arith, line, o)) hit miss same in
    let one : hits (λ u. f u n) w ≡ hits (λ u. g u n) w = hits_alike (λ u. f u n) (λ u. g u n) w (λ i _. same i n (inr (λ e. o.1 (sym e)))) in
    omega (arith, rest, one))
    (eqb_tells y n)

-- a put over a value by another one leaves one place fewer that shows it
pub one_fewer : (l : Layout ℕ) (x y seed value : ℕ) → seed ≢ value → (grid_of l).pixel x y ≡ Some seed
    → places_with seed (patch (grid_of l) x y (uniform 1 1 value)) + 1 ≡ places_with seed (grid_of l)
unfolding grid_of patch uniform places_with
one_fewer l x y seed value other had =
    let place = is_a_place l x y seed had in
    let hit : is_value seed ((grid_of l).pixel x y) ≡ true = ap (is_value seed) had ∙ grind (arith, nat_tests) in
    let miss : is_value seed ((patch (grid_of l) x y (uniform 1 1 value)).pixel x y) ≡ false = ap (is_value seed) (put_pixel l x y value place.0 place.1) ∙ grind (arith, nat_tests, other) in
    sym (one_place_fewer (λ u v. is_value seed ((grid_of l).pixel u v)) (λ u v. is_value seed ((patch (grid_of l) x y (uniform 1 1 value)).pixel u v)) x y l.width l.height place.0 place.1 hit miss
    (λ u v o. ap (is_value seed) (sym (beside_patch l x y (uniform 1 1 value) u v (grind (arith, o))))))

-- the same of the places that pass a test
pub one_fewer_where : {T : Type 0} (test : T → Bool) (l : Layout T) (x y : ℕ) (p value : T) → (grid_of l).pixel x y ≡ Some p → test p ≡ true → test value ≡ false
    → places_where test (patch (grid_of l) x y (uniform 1 1 value)) + 1 ≡ places_where test (grid_of l)
unfolding grid_of patch uniform places_where
one_fewer_where {T} test l x y p value had passes fails =
    let place = is_a_place l x y p had in
    let shows : Option T → Bool = λ o. option_map_or test o false in
    let hit : shows ((grid_of l).pixel x y) ≡ true = ap shows had ∙ passes in
    let miss : shows ((patch (grid_of l) x y (uniform 1 1 value)).pixel x y) ≡ false = ap shows (put_pixel l x y value place.0 place.1) ∙ fails in
    sym (one_place_fewer (λ u v. shows ((grid_of l).pixel u v)) (λ u v. shows ((patch (grid_of l) x y (uniform 1 1 value)).pixel u v)) x y l.width l.height place.0 place.1 hit miss
    (λ u v o. ap shows (sym (beside_patch l x y (uniform 1 1 value) u v (grind (arith, o))))))
