-- A region that gets its label run by run: how it begins, goes on and ends.
use Rattle.std.proofs.Common.{zero, suc, ◌≡◌, ◌≢◌, ℕ, ◌+◌, ◌-◌, ◌*◌, ◌/◌, ◌%◌, ◌<◌, ◌≤◌, ◌⊎◌, inl, inr, ◌==◌, ◌&&◌, Bool, true, Option, Some, None, List, length, set, refl, sym, ap, ap₂, ◌∙◌, subst, arith, ⊎_elim}
use Rattle.std.specs.Prelude.{slice_index}
use Rattle.std.proofs.lemmas.Bool.{cases_Bool, cases_lt}
use Rattle.std.proofs.lemmas.Bool.Decides.{eqb_tells, nat_tests}
use Rattle.std.proofs.lemmas.List.{get_or-set_same, get_or-set_other}
use Rattle.std.proofs.lemmas.Nat.{mod-mul-add, div-mul-add}
use Rattle.image_model.specs.Layout.{Layout}
use Rattle.image_model.specs.Grid.{Grid, grid_of, patch, uniform}
use Rattle.image_model.specs.Connected.{IsConnected, start, next}
use Rattle.image_model.specs.Counts.{is_value, hits, place_hits, places_with}
use Rattle.image_model.specs.Regions.{unlabelled, HasRegion}
use Rattle.image_model.proofs.Places.{outside_trans}
use Rattle.image_model.proofs.Puts.{put_cases, one_fewer}
use Rattle.image_model.proofs.Reading.{is_a_place}
use Rattle.image_model.proofs.Regions.{open_by, open_is, open_tells, open_at, labelled_place}
use Rattle.imgref.specs.Words.{ref_grid, shape_height, shape_width, shaped}
use Rattle.image_regions.proofs.Pending.{places_with_bound}
use Rattle.image_regions.specs.declared.labels.Run.{Run}
use Rattle.image_regions.specs.declared.labels.Search.{Search}
use Rattle.image_regions.specs.Runs.{ShowsAlong, FillsRun, AddsLabel, IsPending, IsInRun, no_run, Spreading, AddsRuns, CanSpread, HasLabels, label_grid, open_places}

-- ---- a run that is found

module _ {P : Type 0} (h : Grid P) (p : P) where
  -- two parts of it
  pub shows_both : (y from x to : ℕ) → ShowsAlong h p y from x → ShowsAlong h p y x to → ShowsAlong h p y from to
  shows_both y from x to before after u l r = ⊎_elim (λ low. before u l low) (λ high. after u high r) (cases_lt u x)

-- ---- labels that are added

-- a place that has the label keeps it
pub label_stays : (n : ℕ) → 0 < n → (old new : Grid ℕ) → AddsLabel n old new → (u v : ℕ) → old.pixel u v ≡ Some n → new.pixel u v ≡ Some n
label_stays n some old new adds u v has = ⊎_elim (λ same. same ∙ has) (λ r. r.1) (adds u v)

-- one label after the other
pub adds_both : (n : ℕ) (a b c : Grid ℕ) → AddsLabel n a b → AddsLabel n b c → AddsLabel n a c
adds_both n a b c one two u v = ⊎_elim
    (λ same. ⊎_elim (λ s. inl (same ∙ s)) (λ r. inr (r.0, same ∙ r.1)) (one u v))
    (λ r. ⊎_elim (λ s. inr (sym s ∙ r.0, r.1)) (λ s. inr (s.0, r.1)) (one u v))
    (two u v)

-- ---- how many places have no label

hits_more : (f g : ℕ → Bool) (n : ℕ) → ((i : ℕ) → f i ≡ true → g i ≡ true) → hits f n ≤ hits g n
hits_more f g zero so = omega arith
hits_more f g (suc n) so =
    let rest = hits_more f g n so in
    ⊎_elim
    (λ t. let other : g n ≡ true = so n t in grind (arith, rest, t, other))
    (λ f. grind (arith, rest, f))
    (cases_Bool (f n))

place_hits_more : (f g : ℕ → ℕ → Bool) (w n : ℕ) → ((u v : ℕ) → f u v ≡ true → g u v ≡ true) → place_hits f w n ≤ place_hits g w n
place_hits_more f g w zero so = omega arith
place_hits_more f g w (suc n) so = omega (arith, place_hits_more f g w n so, hits_more (λ u. f u n) (λ u. g u n) w (λ u. so u n))

shows_value : (value : ℕ) (o : Option ℕ) → is_value value o ≡ true → o ≡ Some value
shows_value value None is = absurd (cc is)
shows_value value (Some p) is = ap Some (grind (arith, nat_tests, is))

-- a place without a label that gets one makes these fewer
pub fewer_without : (l k : Layout ℕ) (n i j : ℕ) → 0 < n → k.width ≡ l.width → k.height ≡ l.height → AddsLabel n (grid_of l) (grid_of k) → (grid_of l).pixel i j ≡ Some 0 → (grid_of k).pixel i j ≡ Some n
    → places_with 0 (grid_of k) < places_with 0 (grid_of l)
unfolding grid_of patch uniform places_with
fewer_without l k n i j some wide high adds free has = omega (arith, most, one_fewer l i j 0 n (λ e. omega (arith, e, some)) free)
  where
    put : Grid ℕ
    put = patch (grid_of l) i j (uniform 1 1 n)

    place : (i < l.width) × (j < l.height)
    place = is_a_place l i j 0 free

    still : (u v : ℕ) → (grid_of k).pixel u v ≡ Some 0 → put.pixel u v ≡ Some 0
    still u v none = ⊎_elim
        (λ same. ⊎_elim
        (λ s. s ∙ sym same ∙ none)
        (λ at. let both : Some n ≡ Some 0 = sym has ∙ ap (λ a. (grid_of k).pixel a j) (sym at.0) ∙ ap (λ b. (grid_of k).pixel u b) (sym at.1) ∙ none in let z : n ≡ 0 = cc both in absurd (omega (arith, z, some)))
        (put_cases l i j n place.0 place.1 u v))
        (λ r. let both : Some n ≡ Some 0 = sym r.1 ∙ none in let z : n ≡ 0 = cc both in absurd (omega (arith, z, some)))
        (adds u v)

    most : place_hits (λ u v. is_value 0 ((grid_of k).pixel u v)) k.width k.height ≤ place_hits (λ u v. is_value 0 (put.pixel u v)) l.width l.height
    most = subst (λ w. place_hits (λ u v. is_value 0 ((grid_of k).pixel u v)) w k.height ≤ place_hits (λ u v. is_value 0 (put.pixel u v)) l.width l.height) (sym wide)
        (subst (λ h. place_hits (λ u v. is_value 0 ((grid_of k).pixel u v)) l.width h ≤ place_hits (λ u v. is_value 0 (put.pixel u v)) l.width l.height) (sym high)
        (place_hits_more (λ u v. is_value 0 ((grid_of k).pixel u v)) (λ u v. is_value 0 (put.pixel u v)) l.width l.height
        (λ u v is. ap (is_value 0) (still u v (shows_value 0 ((grid_of k).pixel u v) is)) ∙ grind (arith, nat_tests))))

-- ---- one region

module _ {T : Type 0} (test : T → Bool) (g : Grid T) where
  -- a place that is open has no label, and shows a pixel that passes
  pub tells : (l : Layout ℕ) (u v : ℕ) → (unlabelled test g (grid_of l)).pixel u v ≡ Some true → ((grid_of l).pixel u v ≡ Some 0) × ((q : T) × ((g.pixel u v ≡ Some q) × (test q ≡ true)))
  tells l u v is = open_tells test g ((grid_of l).pixel u v) (g.pixel u v) (sym (open_at test g l u v) ∙ is)

  -- a place whose label and pixel are known
  pub open_shows : (l : Layout ℕ) (u v n : ℕ) (p : T) → (grid_of l).pixel u v ≡ Some n → g.pixel u v ≡ Some p → (unlabelled test g (grid_of l)).pixel u v ≡ Some ((n == 0) && test p)
  open_shows l u v n p has shows = open_at test g l u v ∙ ap₂ (open_by test g) has shows

  -- a run of open places that is filled has had no labels
  pub fills_add : (l : Layout ℕ) (n y from to : ℕ) (new : Grid ℕ) → ShowsAlong (unlabelled test g (grid_of l)) true y from to → FillsRun n y from to (grid_of l) new → AddsLabel n (grid_of l) new
  fills_add l n y from to new opened f u v = ⊎_elim inl
      (λ r. inr (subst (λ z. (grid_of l).pixel u z ≡ Some 0) (sym r.0) (tells l u y (opened u r.1 r.2)).0, r.3))
      (f.each u v)

  -- a place that isn't open stays so
  pub closed_stays : (l k : Layout ℕ) (n : ℕ) → 0 < n → AddsLabel n (grid_of l) (grid_of k) → (u v : ℕ) → (unlabelled test g (grid_of l)).pixel u v ≢ Some true → (unlabelled test g (grid_of k)).pixel u v ≢ Some true
  closed_stays l k n some adds u v closed = λ is.
      let told = tells k u v is in
      ⊎_elim
      (λ same. closed (open_is test g l u v told.1.0 (sym same ∙ told.0) told.1.1.0 told.1.1.1))
      (λ r. let both : Some n ≡ Some 0 = sym r.1 ∙ told.0 in let z : n ≡ 0 = cc both in omega (arith, z, some))
      (adds u v)

  -- a place with a label isn't open
  pub labelled_closed : (l : Layout ℕ) (n u v : ℕ) → 0 < n → (grid_of l).pixel u v ≡ Some n → (unlabelled test g (grid_of l)).pixel u v ≢ Some true
  labelled_closed l n u v some has = labelled_place test g l u v (λ e. let both : Some n ≡ Some 0 = sym has ∙ e in let z : n ≡ 0 = cc both in omega (arith, z, some))

  -- no place outside is open
  pub outside_closed : (l : Layout ℕ) (u v : ℕ) → (l.width ≤ u) ⊎ (l.height ≤ v) → (unlabelled test g (grid_of l)).pixel u v ≢ Some true
  outside_closed l u v out = λ is. let place = is_a_place l u v 0 (tells l u v is).0 in ⊎_elim (λ o. omega (arith, o, place)) (λ o. omega (arith, o, place)) out

  module _ (x y n : ℕ) (some : 0 < n) (b : Layout ℕ) where
    abbrev free : Grid Bool
    free = unlabelled test g (grid_of b)

    -- whether the label of each place is that of the beginning, or n
    abbrev OnlyLabel : Layout ℕ → Type 0
    OnlyLabel l = (u v : ℕ) → ((grid_of l).pixel u v ≡ (grid_of b).pixel u v) ⊎ ((grid_of l).pixel u v ≡ Some n)

    -- a place that is open was so at the beginning
    pub was_free : (l : Layout ℕ) → OnlyLabel l → (u v : ℕ) → (unlabelled test g (grid_of l)).pixel u v ≡ Some true → free.pixel u v ≡ Some true
    was_free l each u v is =
        let told = tells l u v is in
        ⊎_elim
        (λ same. open_is test g b u v told.1.0 (sym same ∙ told.0) told.1.1.0 told.1.1.1)
        (λ has. let both : Some n ≡ Some 0 = sym has ∙ told.0 in let z : n ≡ 0 = cc both in absurd (omega (arith, z, some)))
        (each u v)

    -- and one that was so and isn't has the label
    pub is_labelled : (l : Layout ℕ) → OnlyLabel l → (u v : ℕ) → free.pixel u v ≡ Some true → (unlabelled test g (grid_of l)).pixel u v ≢ Some true → (grid_of l).pixel u v ≡ Some n
    is_labelled l each u v is closed =
        let told = tells b u v is in
        ⊎_elim (λ same. absurd (closed (open_is test g l u v told.1.0 (same ∙ told.0) told.1.1.0 told.1.1.1))) (λ has. has) (each u v)

    module _ (first : free.pixel x y ≡ Some true) where
      rightwards : (i j k : ℕ) → IsConnected free x y i j → ShowsAlong free true j i (i + k + 1) → IsConnected free x y (i + k) j
      rightwards i j zero path all = subst (λ m. IsConnected free x y m j) (omega arith) path
      rightwards i j (suc k) path all =
          next (rightwards i j k path (λ u l r. all u l (omega (arith, r)))) (inl (refl, inl (omega arith))) (all (i + suc k) (omega arith) (omega arith) ∙ sym first)

      leftwards : (i j k : ℕ) → IsConnected free x y (i + k) j → ShowsAlong free true j i (i + k + 1) → IsConnected free x y i j
      leftwards i j zero path all = subst (λ m. IsConnected free x y m j) (omega arith) path
      leftwards i j (suc k) path all =
          leftwards i j k (next path (inl (refl, inr (omega arith))) (all (i + k) (omega arith) (omega arith) ∙ sym first)) (λ u l r. all u l (omega (arith, r)))

      -- from one place of a run a path leads to each other one
      along_run : (i j from to : ℕ) → from ≤ i → i < to → IsConnected free x y i j → ShowsAlong free true j from to → (u : ℕ) → from ≤ u → u < to → IsConnected free x y u j
      along_run i j from to left right path all u after before = ⊎_elim
          (λ low. leftwards u j (i - u) (subst (λ m. IsConnected free x y m j) (omega (arith, low)) path) (λ w p q. all w (omega (arith, p, after)) (omega (arith, q, low, right))))
          (λ high. subst (λ m. IsConnected free x y m j) (omega (arith, high)) (rightwards i j (u - i) path (λ w p q. all w (omega (arith, p, left)) (omega (arith, q, high, before)))))
          (cases_lt u i)

    -- at the beginning no place has the label
    pub spread_begins : (w : ℕ) (room : List ℕ) → free.pixel x y ≡ Some true → ((u v : ℕ) → (grid_of b).pixel u v ≢ Some n) → Spreading test g x y n (grid_of b) (grid_of b) w 0 room no_run
    spread_begins w room first fresh = record {
      first = first;
      each = λ u v. inl refl;
      own = λ u v has. absurd (fresh u v has);
      across = λ u v i has _ _. absurd (fresh u v has);
      down = λ u v j has _ _. absurd (fresh u v has);
    }

    -- a run gets it, and is pending from then on
    module _ (l k : Layout ℕ) (w count : ℕ) (room : List ℕ) (looked : Run) (a e i j : ℕ) (fills : FillsRun n j a e (grid_of l) (grid_of k)) (left : a ≤ i) (right : i < e)
        (opened : ShowsAlong (unlabelled test g (grid_of l)) true j a e) (starts : (u : ℕ) → u + 1 ≡ a → (unlabelled test g (grid_of l)).pixel u j ≢ Some true) (ends : (unlabelled test g (grid_of l)).pixel e j ≢ Some true)
        (below : count < length room) (path : IsConnected free x y i j) (f : Spreading test g x y n (grid_of b) (grid_of l) w count room looked) where
      abbrev pub more : List ℕ
      more = set room count (j * w + a)

      keeps : (u v : ℕ) → (grid_of l).pixel u v ≡ Some n → (grid_of k).pixel u v ≡ Some n
      keeps u v has = ⊎_elim (λ same. same ∙ has) (λ r. r.3) (fills.each u v)

      beside_run : (u m : ℕ) → a ≤ u → u < e → (m ≡ u + 1) ⊎ (u ≡ m + 1) → free.pixel m j ≡ Some true → (grid_of k).pixel m j ≡ Some n
      beside_run u m after before step is = ⊎_elim
          (λ low. keeps m j (is_labelled l f.each m j is (starts m (⊎_elim (λ s. omega (arith, s, low, after)) (λ s. omega (arith, s, low, after)) step))))
          (λ high. ⊎_elim
          (λ in_run. fills.along m high in_run)
          (λ past. let at : m ≡ e = ⊎_elim (λ s. omega (arith, s, past, before)) (λ s. omega (arith, s, past, before)) step in
          keeps m j (is_labelled l f.each m j is (λ o. ends (ap (λ c. (unlabelled test g (grid_of l)).pixel c j) (sym at) ∙ o))))
          (cases_lt m e))
          (cases_lt m a)

      stays : (u v : ℕ) → IsPending n (grid_of l) w count room u v → IsPending n (grid_of k) w (count + 1) more u v
      stays u v (q, c, few, is, le, all) = (q, c, omega (arith, few), get_or-set_other room count q (j * w + a) 0 (λ s. omega (arith, s, few)) ∙ is, le, λ m p r. keeps m v (all m p r))

      pub run_spreads : Spreading test g x y n (grid_of b) (grid_of k) w (count + 1) more looked
      run_spreads = record {
        first = f.first;
        each = λ u v. ⊎_elim (λ same. ⊎_elim (λ s. inl (same ∙ s)) (λ has. inr (same ∙ has)) (f.each u v)) (λ r. inr r.3) (fills.each u v);
        own = λ u v has. ⊎_elim
            (λ same. f.own u v (sym same ∙ has))
            (λ r. subst (λ m. IsConnected free x y u m) (sym r.0) (along_run f.first i j a e left right path (λ m p q. was_free l f.each m j (opened m p q)) u r.1 r.2))
            (fills.each u v);
        across = λ u v m has step is. ⊎_elim
            (λ same. keeps m v (f.across u v m (sym same ∙ has) step is))
            (λ r. subst (λ z. (grid_of k).pixel m z ≡ Some n) (sym r.0) (beside_run u m r.1 r.2 step (subst (λ z. free.pixel m z ≡ Some true) r.0 is)))
            (fills.each u v);
        down = λ u v m has step is. ⊎_elim
            (λ same. ⊎_elim (λ h. inl (keeps u m h)) (λ p. inr (⊎_elim (λ q. inl (stays u v q)) inr p)) (f.down u v m (sym same ∙ has) step is))
            (λ r. inr (inl (count, a, omega arith, get_or-set_same room count (j * w + a) 0 below ∙ ap (λ z. z * w + a) (sym r.0), r.1, λ c p q. subst (λ z. (grid_of k).pixel c z ≡ Some n) (sym r.0) (fills.along c p (omega (arith, q, r))))))
            (fills.each u v);
      }

    -- the last run in the room is taken off, to be looked at
    pub run_taken : (l : Layout ℕ) (w count : ℕ) (room : List ℕ) (looked : Run) → looked.from < w → l.width ≡ w → slice_index room count ≡ looked.y * w + looked.from → looked.from ≤ looked.to → ShowsAlong (grid_of l) n looked.y looked.from looked.to → (grid_of l).pixel looked.to looked.y ≢ Some n
        → Spreading test g x y n (grid_of b) (grid_of l) w (count + 1) room no_run → Spreading test g x y n (grid_of b) (grid_of l) w count room looked
    run_taken l w count room looked column wide number order along ends f = record {
      first = f.first;
      each = f.each;
      own = f.own;
      across = f.across;
      down = λ u v m has step is. ⊎_elim inl
          (λ p. ⊎_elim (λ q. inr (taken u v q)) (λ none. absurd (omega (arith, none))) p)
          (f.down u v m has step is);
    }
      where
        taken : (u v : ℕ) → IsPending n (grid_of l) w (count + 1) room u v → IsPending n (grid_of l) w count room u v ⊎ IsInRun looked u v
        taken u v (q, a, few, is, le, all) = ⊎_elim
            (λ last.
            let same : v * w + a ≡ looked.y * w + looked.from = sym is ∙ ap (slice_index room) last.1 ∙ number in
            let within : a < w = omega (arith, wide, (is_a_place l a v n (all a (omega arith) (omega (arith, le)))).0) in
            let line : v ≡ looked.y = sym (div-mul-add v w a within) ∙ ap (λ z. z / w) same ∙ div-mul-add looked.y w looked.from column in
            let at : a ≡ looked.from = sym (mod-mul-add v w a within) ∙ ap (λ z. z % w) same ∙ mod-mul-add looked.y w looked.from column in
            ⊎_elim
            (λ before. inr (line, omega (arith, at, le), before))
            (λ past. absurd (ends (subst (λ z. (grid_of l).pixel looked.to z ≡ Some n) line (all looked.to (omega (arith, at, order)) (omega (arith, past))))))
            (cases_lt u looked.to))
            (λ other. inl (q, a, omega (arith, few, other.1), is, le, all))
            (eqb_tells q count)

    -- a place beside one with the label that was open at the beginning is connected
    pub connected_on : (l : Layout ℕ) (w count : ℕ) (room : List ℕ) (looked : Run) → Spreading test g x y n (grid_of b) (grid_of l) w count room looked → (u v m : ℕ) → (grid_of l).pixel u v ≡ Some n → (m ≡ v) ⊎ ((m ≡ v + 1) ⊎ (v ≡ m + 1))
        → free.pixel u m ≡ Some true → IsConnected free x y u m
    connected_on l w count room looked f u v m has step is = ⊎_elim
        (λ s. subst (λ z. IsConnected free x y u z) (sym s) (f.own u v has))
        (λ s. next (f.own u v has) (inr (refl, s)) (is ∙ sym f.first))
        step

    -- the run was looked at
    pub run_done : (l : Layout ℕ) (w count : ℕ) (room : List ℕ) (looked : Run) → ((u m : ℕ) → looked.from ≤ u → u < looked.to → (m ≡ looked.y + 1) ⊎ (looked.y ≡ m + 1) → free.pixel u m ≡ Some true → (grid_of l).pixel u m ≡ Some n)
        → Spreading test g x y n (grid_of b) (grid_of l) w count room looked → Spreading test g x y n (grid_of b) (grid_of l) w count room no_run
    run_done l w count room looked done f = record {
      first = f.first;
      each = f.each;
      own = f.own;
      across = f.across;
      down = λ u v m has step is. ⊎_elim inl
          (λ p. ⊎_elim (λ q. inr (inl q)) (λ at. inl (done u m at.1 at.2 (subst (λ z. (m ≡ z + 1) ⊎ (z ≡ m + 1)) at.0 step) is)) p)
          (f.down u v m has step is);
    }

    -- no run is pending: the region has its label
    pub spread_ends : (l : Layout ℕ) (w count : ℕ) (room : List ℕ) → count ≡ 0 → (grid_of l).pixel x y ≡ Some n → Spreading test g x y n (grid_of b) (grid_of l) w count room no_run → HasRegion test g x y n (grid_of b) (grid_of l)
    spread_ends l w count room none labelled f = record { each = λ u v. ⊎_elim inl (λ has. inr (f.own u v has, has)) (f.each u v); all = reached }
      where
        reached : (u v : ℕ) → IsConnected free x y u v → (grid_of l).pixel u v ≡ Some n
        reached u v start = labelled
        reached u v (next {u = i} {v = j} path step same) = ⊎_elim
            (λ r. subst (λ z. (grid_of l).pixel u z ≡ Some n) r.0 (f.across i j u (reached i j path) r.1 (subst (λ z. free.pixel u z ≡ Some true) (sym r.0) (same ∙ f.first))))
            (λ c. subst (λ z. (grid_of l).pixel z v ≡ Some n) c.0 (⊎_elim
            (λ has. has)
            (λ p. ⊎_elim (λ q. absurd (omega (arith, none, q.2))) (λ at. absurd (omega (arith, at))) p)
            (f.down i j v (reached i j path) c.1 (subst (λ z. free.pixel z v ≡ Some true) (sym c.0) (same ∙ f.first)))))
            step

-- ---- a search

module _ {T : Type 0} (search : Search T) where
  -- one step after the other
  pub adds_on : (a : List ℕ) (i : ℕ) (p b : List ℕ) (j : ℕ) (q c : List ℕ) (k : ℕ) (r : List ℕ) → AddsRuns search a i p b j q → AddsRuns search b j q c k r → AddsRuns search a i p c k r
  adds_on a i p b j q c k r one two = record {
    adds = adds_both search.label (label_grid search a) (label_grid search b) (label_grid search c) one.adds two.adds;
    fewer = omega (arith, one.fewer, two.fewer);
    places = two.places;
    room = two.room ∙ one.room;
    outside = outside_trans (shaped a search.shape) (shaped b search.shape) (shaped c search.shape) one.outside two.outside;
    fits = two.fits;
  }

  -- an open place is one of the image
  pub open_place : (eq : T → T → Bool) (labels : List ℕ) (x y : ℕ) → (open_places search eq labels).pixel x y ≡ Some true → (x < shape_width search.shape) × (y < shape_height search.shape)
  open_place eq labels x y is = is_a_place (shaped labels search.shape) x y 0 (tells (λ p. eq p search.seed) (ref_grid search.image) (shaped labels search.shape) x y is).0

  -- no run is pending yet
  pub can_begin : (labels room : List ℕ) → HasLabels search labels → 0 < search.label → shape_width search.shape * shape_height search.shape ≤ length room → CanSpread search labels 0 room
  can_begin labels room fit some enough = record {
    fit = fit;
    some = some;
    enough = omega (arith, enough, places_with_bound 0 (shaped labels search.shape));
    places = λ k none. absurd (omega (arith, none));
  }

  -- one is taken off
  pub one_taken : (labels : List ℕ) (count : ℕ) (room : List ℕ) → CanSpread search labels count room → CanSpread search labels (count - 1) room
  one_taken labels count room can = record {
    fit = can.fit;
    some = can.some;
    enough = omega (arith, can.enough);
    places = λ k below. can.places k (omega (arith, below));
  }

  -- after a step the next one is possible
  pub can_go_on : (a : List ℕ) (i : ℕ) (p b : List ℕ) (j : ℕ) (q : List ℕ) → CanSpread search a i p → AddsRuns search a i p b j q → CanSpread search b j q
  can_go_on a i p b j q can one = record {
    fit = record { fits = can.fit.fits; labels_fit = one.fits; width = can.fit.width; height = can.fit.height };
    some = can.some;
    enough = omega (arith, can.enough, one.fewer, one.room);
    places = one.places;
  }
