-- Labels of regions: places without a label, and one region after the other that gets its own.
use Rattle.std.proofs.Common.{◌≡◌, ◌≢◌, ℕ, ◌+◌, ◌<◌, ◌≤◌, inl, inr, ◌==◌, ◌&&◌, Bool, true, false, Option, Some, None, refl, sym, ap, ap₂, ◌∙◌, subst, arith, ⊎_elim}
use Rattle.std.specs.Prelude.{IsTrue, nat_eq, ◌↔◌}
use Rattle.std.specs.Option.{option_map, option_zip}
use Rattle.std.proofs.lemmas.Bool.{cases_Bool, cond-true, cond-false}
use Rattle.std.proofs.lemmas.Bool.Decides.{eqb_tells, nat_tests}
use Rattle.image_model.specs.Layout.{Layout, Fits, pixel}
use Rattle.image_model.specs.Grid.{Grid, grid_of, is_place}
use Rattle.image_model.specs.ByPlace.{zipped}
use Rattle.image_model.specs.Connected.{IsConnected, start, next}
use Rattle.image_model.specs.Regions.{TellsApart, AreRegions, Labelled, HasLabel, AreDone, KeepsLabels, unlabelled, HasRegion, IsLabelStep}
use Rattle.image_model.proofs.Connected.{connected_same, connected_onward, connected_back}
use Rattle.image_model.proofs.Grids.{pixel_at}
use Rattle.image_model.proofs.Mapped.{has_pixel}
use Rattle.image_model.proofs.Reading.{is_a_place}

module _ {T : Type 0} (test : T → Bool) (g : Grid T) where
  -- ---- places without a label

  -- a label and a pixel together
  abbrev pub open_by : Option ℕ → Option T → Option Bool
  open_by label p = option_map (λ (q : ℕ × T). (q.0 == 0) && test q.1) (option_zip label p)

  -- what a grid of such places shows
  pub open_at : (l : Layout ℕ) (u v : ℕ) → (unlabelled test g (grid_of l)).pixel u v ≡ open_by ((grid_of l).pixel u v) (g.pixel u v)
  unfolding unlabelled zipped grid_of
  open_at l u v = ⊎_elim
      (λ hit. cond-true (is_place l.width l.height u v) _ None hit)
      (λ miss. cond-false (is_place l.width l.height u v) _ None miss ∙ sym (ap (λ o. open_by o (g.pixel u v)) (cond-false (is_place l.width l.height u v) _ None miss)))
      (cases_Bool (is_place l.width l.height u v))

  -- a place is open exactly if it has no label and its pixel passes
  pub open_is : (l : Layout ℕ) (u v : ℕ) (p : T) → (grid_of l).pixel u v ≡ Some 0 → g.pixel u v ≡ Some p → test p ≡ true → (unlabelled test g (grid_of l)).pixel u v ≡ Some true
  open_is l u v p free shows passes = open_at l u v ∙ ap₂ open_by free shows ∙ ap Some passes

  pub closed_is : (l : Layout ℕ) (u v n : ℕ) (p : T) → (grid_of l).pixel u v ≡ Some n → n ≢ 0 → g.pixel u v ≡ Some p → (unlabelled test g (grid_of l)).pixel u v ≡ Some false
  closed_is l u v n p has some shows =
      let no : (n == 0) ≡ false = grind (arith, nat_tests, some) in
      open_at l u v ∙ ap₂ open_by has shows ∙ ap (λ b. Some (b && test p)) no

  pub open_tells : (label : Option ℕ) (p : Option T) → open_by label p ≡ Some true → (label ≡ Some 0) × ((q : T) × ((p ≡ Some q) × (test q ≡ true)))
  open_tells None p is = absurd (cc is)
  open_tells (Some n) None is = absurd (cc is)
  open_tells (Some n) (Some q) is = ⊎_elim
      (λ z. let none : n ≡ 0 = grind (arith, nat_tests, z) in
      let rest : Some ((n == 0) && test q) ≡ Some (test q) = ap (λ b. Some (b && test q)) z in
      let passes : Some (test q) ≡ Some true = sym rest ∙ is in
      (ap Some none, (q, (refl, cc passes))))
      (λ z. let rest : Some ((n == 0) && test q) ≡ Some false = ap (λ b. Some (b && test q)) z in absurd (let wrong : Some false ≡ Some true = sym rest ∙ is in cc wrong))
      (cases_Bool (n == 0))

  -- a place with a label isn't open
  pub labelled_place : (l : Layout ℕ) (u v : ℕ) → (grid_of l).pixel u v ≢ Some 0 → (unlabelled test g (grid_of l)).pixel u v ≢ Some true
  labelled_place l u v has = λ e. has (open_tells ((grid_of l).pixel u v) (g.pixel u v) (sym (open_at l u v) ∙ e)).0

-- ---- one region after the other

module _ {T : Type 0} (eq : T → T → Bool) (tells : TellsApart eq) (i : Layout T) where
  abbrev g : Grid T
  g = grid_of i

  -- no place has a label yet
  pub none_labelled : (labels : Grid ℕ) → ((u v n : ℕ) → labels.pixel u v ≡ Some n → n ≡ 0) → Labelled g labels 0
  none_labelled labels zeros = record {
    within = λ x y n has. omega (arith, zeros x y n has);
    used = λ n some few. absurd (omega (arith, some, few));
    apart = λ x y u v n some has _. absurd (omega (arith, some, zeros x y n has));
    together = λ x y u v n some has _. absurd (omega (arith, some, zeros x y n has));
  }

  module _ (l k : Layout ℕ) (fits : Fits l) (wide : l.width ≡ i.width) (high : l.height ≡ i.height) (x y count : ℕ) (seed : T) (free : (grid_of l).pixel x y ≡ Some 0) (shows : g.pixel x y ≡ Some seed)
      (region : HasRegion (λ p. eq p seed) g x y (count + 1) (grid_of l) (grid_of k)) (done : Labelled g (grid_of l) count) where
    abbrev m : Grid Bool
    m = unlabelled (λ p. eq p seed) g (grid_of l)

    first : m.pixel x y ≡ Some true
    first = open_is (λ p. eq p seed) g l x y seed free shows ((tells seed seed).1 refl)

    -- an open place has no label, and shows the seed
    open_place : (u v : ℕ) → m.pixel u v ≡ Some true → ((grid_of l).pixel u v ≡ Some 0) × (g.pixel u v ≡ Some seed)
    open_place u v is =
        let told = open_tells (λ p. eq p seed) g ((grid_of l).pixel u v) (g.pixel u v) (sym (open_at (λ p. eq p seed) g l u v) ∙ is) in
        (told.0, told.1.1.0 ∙ ap Some ((tells told.1.0 seed).0 told.1.1.1))

    on_path : (u v : ℕ) → IsConnected m x y u v → m.pixel u v ≡ Some true
    on_path u v path = connected_same m x y u v path ∙ first

    -- paths over open places are paths
    to_path : (u v : ℕ) → IsConnected m x y u v → IsConnected g x y u v
    to_path u v start = start
    to_path u v (next {u = a} {v = b} path step same) = next (to_path a b path) step ((open_place u v (same ∙ first)).1 ∙ sym shows)

    -- and from a place without a label each path is one over open places
    from_path : (u v : ℕ) → IsConnected g x y u v → IsConnected m x y u v
    from_path u v start = start
    from_path u v (next {u = a} {v = b} path step same) =
        let seeded : g.pixel u v ≡ Some seed = same ∙ shows in
        let place = is_a_place i u v seed seeded in
        let has = has_pixel l fits u v (omega (arith, place, wide)) (omega (arith, place, high)) in
        let label : (grid_of l).pixel u v ≡ Some has.0 = pixel_at l u v (omega (arith, place, wide)) (omega (arith, place, high)) ∙ has.1 in
        let whole : IsConnected g x y u v = next path step same in
        next (from_path a b path) step (⊎_elim
        (λ z. open_is (λ p. eq p seed) g l u v seed (label ∙ ap Some z.1) seeded ((tells seed seed).1 refl) ∙ sym first)
        (λ o. let none : Some has.0 ≡ Some 0 = sym (done.together u v x y has.0 (omega (arith, o.1)) label (connected_back g x y u v whole)) ∙ free in absurd (o.1 (cc none)))
        (eqb_tells has.0 0))

    -- what had a label keeps it
    keeps : KeepsLabels (grid_of l) (grid_of k)
    keeps u v n some has = ⊎_elim
        (λ same. same ∙ has)
        (λ r. let none : Some n ≡ Some 0 = sym has ∙ (open_place u v (on_path u v r.0)).0 in let z : n ≡ 0 = cc none in absurd (omega (arith, some, z)))
        (region.each u v)

    new_label : (u v n : ℕ) → (grid_of k).pixel u v ≡ Some n → (grid_of k).pixel u v ≡ Some (count + 1) → n ≡ count + 1
    new_label u v n has new = let e : Some n ≡ Some (count + 1) = sym has ∙ new in cc e

    one_more : Labelled g (grid_of k) (count + 1)
    one_more = record {
      within = λ u v n has. ⊎_elim (λ same. omega (arith, done.within u v n (sym same ∙ has))) (λ r. omega (arith, new_label u v n has r.1)) (region.each u v);
      used = λ n some few. ⊎_elim
          (λ e. (x, y, region.all x y start ∙ ap Some (sym e.1)))
          (λ o. let old = done.used n some (omega (arith, few, o.1)) in (old.0, old.1, keeps old.0 old.1 n some old.2))
          (eqb_tells n (count + 1));
      apart = λ u v a b n some one two. ⊎_elim
          (λ same. ⊎_elim
          (λ other. done.apart u v a b n some (sym same ∙ one) (sym other ∙ two))
          (λ s. absurd (omega (arith, done.within u v n (sym same ∙ one), new_label a b n two s.1)))
          (region.each a b))
          (λ r. ⊎_elim
          (λ other. absurd (omega (arith, done.within a b n (sym other ∙ two), new_label u v n one r.1)))
          (λ s. connected_onward g u v x y a b (connected_back g x y u v (to_path u v r.0)) (to_path a b s.0))
          (region.each a b))
          (region.each u v);
      together = λ u v a b n some one path. ⊎_elim
          (λ same. keeps a b n some (done.together u v a b n some (sym same ∙ one) path))
          (λ r. region.all a b (from_path a b (connected_onward g x y u v a b (to_path u v r.0) path)) ∙ ap Some (sym (new_label u v n one r.1)))
          (region.each u v);
    }

  -- a place without a label gets one, with its region
  pub step_labels : (l k : Layout ℕ) → Fits l → l.width ≡ i.width → l.height ≡ i.height → (x y count more : ℕ) (seed : T) → (grid_of l).pixel x y ≡ Some 0 → g.pixel x y ≡ Some seed
      → HasRegion (λ p. eq p seed) g x y more (grid_of l) (grid_of k) → more ≡ count + 1 → IsLabelStep g x y (grid_of l) count (grid_of k) more
  step_labels l k fits wide high x y count more seed free shows region is done =
      let so : HasRegion (λ p. eq p seed) g x y (count + 1) (grid_of l) (grid_of k) = subst (λ n. HasRegion (λ p. eq p seed) g x y n (grid_of l) (grid_of k)) is region in
      (subst (Labelled g (grid_of k)) (sym is) (one_more l k fits wide high x y count seed free shows so done), (more, region.all x y start, omega (arith, is)), keeps l k fits wide high x y count seed free shows so done)

  -- a place with a label stays
  pub step_stays : (labels : Grid ℕ) (x y count n : ℕ) → labels.pixel x y ≡ Some n → n ≢ 0 → IsLabelStep g x y labels count labels count
  step_stays labels x y count n has some done = (done, (n, has, omega (arith, some)), λ u v a one is. is)

  -- ---- all places

  pub done_none : (labels : Grid ℕ) (width : ℕ) → AreDone labels width 0 0
  done_none labels width u v column before = ⊎_elim (λ b. absurd (omega (arith, b))) (λ b. absurd (omega (arith, b.1))) before

  -- one place more
  pub done_more : (old new : Grid ℕ) (width x y : ℕ) → AreDone old width x y → HasLabel new x y → KeepsLabels old new → AreDone new width (x + 1) y
  done_more old new width x y done label kept u v column before = ⊎_elim
      (λ b. keep (done u v column (inl b)))
      (λ b. ⊎_elim
      (λ s. subst (λ a. HasLabel new a v) (sym s.1) (subst (λ c. HasLabel new x c) (sym b.0) label))
      (λ o. keep (done u v column (inr (b.0, omega (arith, b.1, o.1)))))
      (eqb_tells u x))
      before
    where
      keep : HasLabel old u v → HasLabel new u v
      keep has = (has.0, kept u v has.0 has.2 has.1, has.2)

  -- a row is at its end where the next one begins
  pub done_row_ends : (labels : Grid ℕ) (width x y : ℕ) → width ≤ x → AreDone labels width x y → AreDone labels width 0 (y + 1)
  done_row_ends labels width x y wide done u v column before = ⊎_elim
      (λ b. ⊎_elim
      (λ s. done u v column (inr (s.1, omega (arith, column, wide))))
      (λ o. done u v column (inl (omega (arith, b, o.1))))
      (eqb_tells v y))
      (λ b. absurd (omega (arith, b.1)))
      before

  -- all have labels
  pub all_labelled : (k : Layout ℕ) (count y : ℕ) → k.width ≡ i.width → k.height ≡ i.height → Labelled g (grid_of k) count → i.height ≤ y → AreDone (grid_of k) i.width 0 y → AreRegions g (grid_of k) count
  unfolding grid_of
  all_labelled k count y wide high some below done = record {
    same_width = wide;
    same_height = high;
    labelled = λ u v column line. let has = done u v column (inl (omega (arith, line, below))) in (has.0, has.1, has.2, some.within u v has.0 has.1);
    used = some.used;
    apart = λ u v a b n one two. some.apart u v a b n (positive u v n one) one two;
    together = λ u v a b n one path. some.together u v a b n (positive u v n one) one path;
  }
    where
      positive : (u v n : ℕ) → (grid_of k).pixel u v ≡ Some n → 0 < n
      positive u v n one =
          let place = is_a_place k u v n one in
          let has = done u v (omega (arith, place, wide)) (inl (omega (arith, place, high, below))) in
          let same : Some n ≡ Some has.0 = sym one ∙ has.1 in
          let is : n ≡ has.0 = cc same in omega (arith, is, has.2)

-- ---- labelled regions

-- two places have one label exactly if they are connected
pub label_tells : {T : Type 0} (i : Layout T) (l : Layout ℕ) (count x y u v a b : ℕ) → AreRegions (grid_of i) (grid_of l) count → x < i.width → y < i.height → u < i.width → v < i.height → pixel l x y ≡ Some a → pixel l u v ≡ Some b
    → IsTrue (nat_eq a b) ↔ IsConnected (grid_of i) x y u v
unfolding grid_of
label_tells i l count x y u v a b r column line other_column other_line one two = (joined, apart)
  where
    first : (grid_of l).pixel x y ≡ Some a
    first = pixel_at l x y (omega (arith, column, r.same_width)) (omega (arith, line, r.same_height)) ∙ one

    second : (grid_of l).pixel u v ≡ Some b
    second = pixel_at l u v (omega (arith, other_column, r.same_width)) (omega (arith, other_line, r.same_height)) ∙ two

    joined : IsTrue (nat_eq a b) → IsConnected (grid_of i) x y u v
    joined same = let e : b ≡ a = grind (arith, nat_tests, same) in r.apart x y u v a first (second ∙ ap Some e)

    apart : IsConnected (grid_of i) x y u v → IsTrue (nat_eq a b)
    apart path = let same : Some a ≡ Some b = sym (r.together x y u v a first path) ∙ second in let e : a ≡ b = cc same in grind (arith, nat_tests, e)

-- these laws, for a caller's `using`
pub ruleset labelling = (none_labelled, step_stays, done_none, done_more, done_row_ends, all_labelled)
