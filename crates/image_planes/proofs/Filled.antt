-- What fills fill is hidden, where no change before one of them spreads pixels.
use Rattle.std.proofs.Common.{◌≡◌, ℕ, ◌-◌, ◌/◌, ◌&&◌, ◌||◌, Bool, true, false, not, if◌then◌else◌, List, [], ◌∷◌, take, drop, refl}
use Rattle.image_model.specs.Grid.{Grid, covers}
use Rattle.image_planes.specs.Changes.{Job, job_len, plane_grid, names}
use Rattle.image_planes.specs.Unseen.{GridsAlike, PlanesAlike, hidden_by, is_hidden}
use Rattle.image_commands.specs.Changes.{fills, spreads}
use Rattle.image_planes.specs.Filled.{FillFirst, GridsUnfilled, PlanesUnfilled, any_fills, filled_by, fills_first, is_filled}
use Rattle.image_commands.specs.declared.changes.Change.{Change}
use Rattle.image_commands.specs.declared.changes.Change.TheVariants.{Fill, Mosaic, Mean, Blur, Move, Flip}
use Rattle.image_commands.specs.declared.changes.Axes.TheVariants.{Rows, Columns, Both}
use Rattle.image_planes.specs.declared.change.Step.{Step}

both_true : (a b : Bool) → a && b ≡ true → (a ≡ true) × (b ≡ true)
both_true true b e = (refl, e)
both_true false b e = cc

not_true : (b : Bool) → not b ≡ true → b ≡ false
not_true true e = cc
not_true false e = refl

neither : (a b : Bool) → a || b ≡ false → (a ≡ false) × (b ≡ false)
neither true b e = cc
neither false b e = (refl, e)

module _ (width height : ℕ) where
  -- ---- one change, where `later` are filled and `pixels` are hidden by the steps after it

  -- without a fill nothing is filled
  none_here : (named : Bool) (c : Change (List ℕ)) (later : ℕ → ℕ → Bool) → named && fills c ≡ false → ((x y : ℕ) → later x y ≡ false) → (x y : ℕ)
      → (if named then filled_by width height c later x y else later x y) ≡ false
  none_here false c later here none x y = none x y
  none_here true (Fill w value) later here none x y = cc
  none_here true (Mosaic w wide high) later here none x y = none x y
  none_here true (Mean w wide high bytes) later here none x y = none x y
  none_here true (Blur w across down bytes) later here none x y = none x y
  none_here true (Move w left top) later here none x y = none x y
  none_here true (Flip Rows) later here none x y = none x (height - 1 - y)
  none_here true (Flip Columns) later here none x y = none (width - 1 - x) y
  none_here true (Flip Both) later here none x y = none (width - 1 - x) (height - 1 - y)

  none_filled : (number : ℕ) (ss : List (Step (List ℕ))) → any_fills number ss ≡ false → (x y : ℕ) → is_filled width height number ss x y ≡ false
  none_filled number [] none x y = refl
  none_filled number (s ∷ ss) none x y =
      let parts = neither (names s number && fills s.change) (any_fills number ss) none in
      none_here (names s number) s.change (is_filled width height number ss) parts.0 (none_filled number ss parts.1) x y

  -- a change that spreads pixels comes before no fill, so nothing is filled
  hidden_here : (named : Bool) (c : Change (List ℕ)) (later pixels : ℕ → ℕ → Bool) → (named && spreads c ≡ true → (x y : ℕ) → later x y ≡ false) → ((x y : ℕ) → later x y ≡ true → pixels x y ≡ true) → (x y : ℕ)
      → (if named then filled_by width height c later x y else later x y) ≡ true → (if named then hidden_by width height c pixels x y else pixels x y) ≡ true
  hidden_here false c later pixels none more x y is = more x y is
  hidden_here true (Fill w value) later pixels none more x y is = covered (covers w.left w.top w.width w.height x y) (later x y) (pixels x y) (more x y) is
    where
      covered : (here l p : Bool) → (l ≡ true → p ≡ true) → (if here then true else l) ≡ true → (if here then true else p) ≡ true
      covered true l p more is = refl
      covered false l p more is = more is
  hidden_here true (Mosaic w wide high) later pixels none more x y is = absurd (let no = none refl x y in cc)
  hidden_here true (Mean w wide high bytes) later pixels none more x y is = absurd (let no = none refl x y in cc)
  hidden_here true (Blur w across down bytes) later pixels none more x y is = absurd (let no = none refl x y in cc)
  hidden_here true (Move w left top) later pixels none more x y is = absurd (let no = none refl x y in cc)
  hidden_here true (Flip Rows) later pixels none more x y is = more x (height - 1 - y) is
  hidden_here true (Flip Columns) later pixels none more x y is = more (width - 1 - x) y is
  hidden_here true (Flip Both) later pixels none more x y is = more (width - 1 - x) (height - 1 - y) is

  -- ---- all of them

  filled_hidden : (number : ℕ) (ss : List (Step (List ℕ))) → fills_first number ss ≡ true → (x y : ℕ) → is_filled width height number ss x y ≡ true → is_hidden width height number ss x y ≡ true
  filled_hidden number [] first x y is = cc
  filled_hidden number (s ∷ ss) first x y is =
      let parts = both_true (if names s number && spreads s.change then not (any_fills number ss) else true) (fills_first number ss) first in
      hidden_here (names s number) s.change (is_filled width height number ss) (is_hidden width height number ss)
      (λ mixes. none_filled number ss (not_true (any_fills number ss) (after (names s number && spreads s.change) (not (any_fills number ss)) mixes parts.0))) (filled_hidden number ss parts.1) x y is
    where
      after : (b c : Bool) → b ≡ true → (if b then c else true) ≡ true → c ≡ true
      after true c here e = e
      after false c here e = cc

-- ---- planes

not_filled : (a b : Bool) → (a ≡ true → b ≡ true) → b ≡ false → a ≡ false
not_filled true b there none = absurd (let is = there refl in cc)
not_filled false b there none = refl

grids_alike : (number : ℕ) (j : Job) (g h : Grid ℕ) → fills_first number j.steps ≡ true → GridsUnfilled number j g h → GridsAlike number j g h
grids_alike number j g h first a = record {
  same_width = a.same_width;
  same_height = a.same_height;
  shown = λ x y none. a.shown x y (not_filled (is_filled j.width j.height number j.steps (x / j.size) y) (is_hidden j.width j.height number j.steps (x / j.size) y) (filled_hidden j.width j.height number j.steps first (x / j.size) y) none);
}

-- frames that differ only in what fills fill differ only in what is hidden
pub planes_alike : (number : ℕ) (jobs : List Job) (p q : List ℕ) → FillFirst number jobs → PlanesUnfilled number jobs p q → PlanesAlike number jobs p q
planes_alike number [] p q first a = a
planes_alike number (j ∷ js) p q first a =
    (grids_alike number j (plane_grid j (take (job_len j) p)) (plane_grid j (take (job_len j) q)) first.0 a.0, planes_alike number js (drop (job_len j) p) (drop (job_len j) q) first.1 a.1)
