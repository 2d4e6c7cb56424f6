-- After the steps nothing shows of the old value of a hidden pixel.
use Rattle.std.proofs.Common.{◌≡◌, ℕ, suc, ◌+◌, ◌-◌, ◌<◌, ◌≤◌, ◌*◌, ◌/◌, ◌%◌, Bool, true, false, cond, eqb, Option, None, List, [], ◌∷◌, ◌++◌, take, drop, refl, sym, ap, ◌∙◌, arith, inl, inr}
use Rattle.std.proofs.lemmas.Bool.Decides.{eqb_tells}
use Rattle.std.proofs.lemmas.Bool.{cases_lt}
use Rattle.std.proofs.lemmas.Nat.{div-mul-add, div-add-mod', div_below, le-div, mod_below}
use Rattle.std.proofs.Math.Nat.{mul_comm, mul-add, mul-suc, mul-add-div, mul-div-le, mul-le-mul_left, zero-mul}
use Rattle.image_model.specs.Flips.{flipped}
use Rattle.image_model.specs.Grid.{Grid, grid, grid_of, patch, view, covers, is_place}
use Rattle.image_model.specs.Layout.{layout, pixel}
use Rattle.image_model.specs.Rows.{grid_pixels}
use Rattle.image_model.specs.Tiles.{tile_start}
use Rattle.image_model.specs.Windows.{window_view}
use Rattle.image_model.proofs.Grids.{same_grids, covers_decides}
use Rattle.image_model.proofs.Tiles.{tile_start-is}
use Rattle.image_means.specs.Blur.{blurred}
use Rattle.image_means.specs.Means.{sample_mosaic}
use Rattle.image_shape.specs.declared.samples.SampleBytes.{SampleBytes}
use Rattle.image_writes.specs.Mosaic.{mosaic_by, shown_column}
use Rattle.image_writes.specs.Mirrored.{mirrored_by}
use Rattle.image_ops.specs.Repeated.{repeated}
use Rattle.image_planes.specs.Changes.{bytes_for, Job, job_len, in_bytes, changed, changed_plane, changed_planes, flipped_by, plane_grid, stepped, names}
use Rattle.image_planes.specs.Unseen.{BoxesAlike, MadeAlike, MeansAlike, PlanesAlike, hidden_by, is_hidden, is_corner}
use Rattle.image_commands.specs.declared.changes.Change.{Change}
use Rattle.image_commands.specs.declared.changes.Change.TheVariants.{Fill, Mosaic, Mean, Blur, Move, Flip}
use Rattle.image_commands.specs.declared.changes.Axes.{Axes}
use Rattle.image_commands.specs.declared.changes.Axes.TheVariants.{Rows, Columns, Both}
use Rattle.image_planes.specs.declared.change.Step.{Step}
use Rattle.image_planes.proofs.Flips.{mirror, mirror_pixel}
use Rattle.image_planes.proofs.Parts.{whole_pixels}
use Rattle.image_shape.specs.declared.window.Window.{Window as Coded}

other_way : {A : Type 0} (b : Bool) (p q x y : A) → (b ≡ true → p ≡ q) → (b ≡ false → x ≡ y) → cond b p x ≡ cond b q y
other_way true p q x y same e = same refl
other_way false p q x y same e = e refl

-- two grids are equal at all places at which something is not hidden
abbrev AlikeBut : (ℕ → ℕ → Bool) → Grid ℕ → Grid ℕ → Type 0
AlikeBut hides g h = (g.width ≡ h.width) × (g.height ≡ h.height) × ((x y : ℕ) → hides x y ≡ false → g.pixel x y ≡ h.pixel x y)

-- patches of one size, equal at each place, hide what they cover
patched : (hides later : ℕ → ℕ → Bool) (left top width height : ℕ) (g h p q : Grid ℕ) → p.width ≡ width → p.height ≡ height → q ≡ p
    → ((x y : ℕ) → covers left top width height x y ≡ false → hides x y ≡ later x y) → AlikeBut hides g h → AlikeBut later (patch g left top p) (patch h left top q)
unfolding patch
patched hides later left top width height g h p q wide high same beside a = grind (arith, other_way)

-- ---- the corner of a tile's corner

twice : (tile x : ℕ) → tile_start tile (tile_start tile x) ≡ tile_start tile x
twice tile x =
    elim (cases_lt 0 tile) [
      | inl some ↦
          let at : tile_start tile x ≡ x / tile * tile + 0 = (let e = tile_start-is tile x in omega (arith, e)) in
          sym (tile_start-is tile (tile_start tile x)) ∙ ap (λ n. n / tile * tile) at ∙ ap (λ n. n * tile) (div-mul-add (x / tile) tile 0 some) ∙ tile_start-is tile x
      | inr none ↦
          let zero : tile ≡ 0 = omega arith in
          let parts = tile_start-is tile x in
          let again = tile_start-is tile (tile_start tile x) in
          sym again ∙ ap (λ n. tile_start tile x / tile * n) zero ∙ (let e : tile_start tile x / tile * 0 ≡ x / tile * 0 = omega arith in e) ∙ ap (λ n. x / tile * n) (sym zero) ∙ parts
    ]

same_eqb : (a b : ℕ) → a ≡ b → eqb a b ≡ true
same_eqb a b e = elim (eqb_tells a b) [ inl t ↦ t.0 | inr t ↦ absurd (t.1 e) ]

corner : (w : Coded) (tile_width tile_height x y : ℕ) → is_corner w tile_width tile_height (w.left + tile_start tile_width x) (w.top + tile_start tile_height y) ≡ true
corner w tile_width tile_height x y =
    let left : w.left + tile_start tile_width x - w.left ≡ tile_start tile_width x = omega arith in
    let top : w.top + tile_start tile_height y - w.top ≡ tile_start tile_height y = omega arith in
    let a : eqb (tile_start tile_width (w.left + tile_start tile_width x - w.left)) (w.left + tile_start tile_width x - w.left) ≡ true = same_eqb _ _ (ap (tile_start tile_width) left ∙ twice tile_width x ∙ sym left) in
    let b : eqb (tile_start tile_height (w.top + tile_start tile_height y - w.top)) (w.top + tile_start tile_height y - w.top) ≡ true = same_eqb _ _ (ap (tile_start tile_height) top ∙ twice tile_height y ∙ sym top) in
    rw (a, b) refl

covered : (w : Coded) (x y : ℕ) → x < w.width → y < w.height → covers w.left w.top w.width w.height (w.left + x) (w.top + y) ≡ true
covered w x y column line = (covers_decides w.left w.top w.width w.height (w.left + x) (w.top + y)).1 (omega arith, omega arith, omega arith, omega arith)

-- ---- windows of pixels of some bytes

same_tests : (a b : Bool) → (a ≡ true → b ≡ true) → (b ≡ true → a ≡ true) → a ≡ b
same_tests true b there back = sym (there refl)
same_tests false true there back = back refl
same_tests false false there back = refl

-- a byte is in a window where its pixel is
covers_pixels : (size left top width height x y : ℕ) → 0 < size → covers (size * left) top (size * width) height x y ≡ covers left top width height (x / size) y
covers_pixels size left top width height x y some =
    let both = mul-add size left width in
    let turned = mul_comm size (left + width) in
    same_tests _ _
    (λ hit.
    let c = (covers_decides (size * left) top (size * width) height x y).0 hit in
    (covers_decides left top width height (x / size) y).1
    (le-div left x size some (omega (arith, c.0, mul_comm size left)), c.1, div_below x size (left + width) some (omega (arith, c.2, both, turned)), c.3))
    (λ hit.
    let c = (covers_decides left top width height (x / size) y).0 hit in
    let low = mul-le-mul_left size c.0 in
    let high : size * suc (x / size) ≤ size * (left + width) = mul-le-mul_left size (omega (arith, c.2)) in
    (covers_decides (size * left) top (size * width) height x y).1
    (omega (arith, low, mul-div-le x size), c.1, omega (arith, high, both, mul-suc size (x / size), mul_comm size (x / size), div-add-mod' x size, mod_below x size some), c.3))

-- grids that are equal at each place are one
all_same : (g h : Grid ℕ) → AlikeBut (λ x y. false) g h → g ≡ h
all_same g h a = λ i. record { width = a.0 i; height = a.1 i; pixel = λ x y. a.2 x y refl i }

-- what two grids of one size have at a place
both_have : (width height wide high : ℕ) (f e : ℕ → ℕ → Option ℕ) (x y : ℕ) → width ≡ wide → height ≡ high → (x < width → y < height → f x y ≡ e x y) → (grid width height f).pixel x y ≡ (grid wide high e).pixel x y
both_have width height wide high f e x y across down same = grind arith

-- rows in the opposite order hide what is hidden where they were
rows_hide : (later : ℕ → ℕ → Bool) (height : ℕ) (g h : Grid ℕ) → g.height ≡ height → AlikeBut (λ x y. later x (height - 1 - y)) g h → AlikeBut later (flipped g) (flipped h)
unfolding flipped
rows_hide later height g h high a = (
  a.0,
  a.1,
  λ x y shown. both_have g.width g.height h.width h.height (λ u v. g.pixel u (g.height - 1 - v)) (λ u v. h.pixel u (h.height - 1 - v)) x y a.0 a.1
      (λ column line.
      let back : height - 1 - (g.height - 1 - y) ≡ y = omega (arith, high, line) in
      a.2 x (g.height - 1 - y) (ap (λ n. later x n) back ∙ shown) ∙ ap (λ n. h.pixel x (n - 1 - y)) a.1),
)

-- so do pixels of rows
columns_hide : (size : ℕ) (later : ℕ → ℕ → Bool) (width : ℕ) (g h : Grid ℕ) → 0 < size → g.width ≡ size * width → AlikeBut (λ x y. later (width - 1 - x / size) y) g h
    → AlikeBut (λ x y. later (x / size) y) (mirrored_by size g) (mirrored_by size h)
columns_hide size later width g h some wide a =
    let pixels : g.width / size ≡ width = ap (λ n. n / size) wide ∙ whole_pixels size width some in (
      a.0,
      a.1,
      λ x y shown. both_have g.width g.height h.width h.height (λ u v. g.pixel (mirror size g.width u) v) (λ u v. h.pixel (mirror size h.width u) v) x y a.0 a.1
          (λ column line.
          let within : x / size < width = div_below x size width some (omega (arith, column, wide, mul_comm size width)) in
          let back : width - 1 - mirror size g.width x / size ≡ x / size = omega (arith, mirror_pixel size g.width x some, pixels, within) in
          a.2 (mirror size g.width x) y (ap (λ n. later n y) back ∙ shown) ∙ ap (λ n. h.pixel (mirror size n x) y) a.0),
    )

-- ---- one change of pixels of so many bytes

module _ (size : ℕ) (some : 0 < size) (width height : ℕ) (pixels : ℕ → ℕ → Bool) where
  -- what is hidden before a change, and what is after it, where `pixels` are
  abbrev hides : Change (List ℕ) → ℕ → ℕ → Bool
  hides c x y = hidden_by width height c pixels (x / size) y

  abbrev later : ℕ → ℕ → Bool
  later x y = pixels (x / size) y

  beside : (w : Coded) (x y : ℕ) → covers (size * w.left) w.top (size * w.width) w.height x y ≡ false → covers w.left w.top w.width w.height (x / size) y ≡ false
  beside w x y miss = sym (covers_pixels size w.left w.top w.width w.height x y some) ∙ miss

  fill_hides : (w : Coded) (value : List ℕ) (g h : Grid ℕ) → AlikeBut (hides (Fill w value)) g h → AlikeBut later (changed size (Fill w value) g) (changed size (Fill w value) h)
  unfolding repeated
  fill_hides w value g h a =
      let p : Grid ℕ = repeated (size * w.width) w.height (take size value) in
      patched (hides (Fill w value)) later (size * w.left) w.top (size * w.width) w.height g h p p refl refl refl (λ x y miss. let out = beside w x y miss in rw out refl) a

  -- each byte that a mosaic shows is of the corner of a tile
  shows : (w : Coded) (tile_width tile_height x y : ℕ) → x < size * w.width → y < w.height → hides (Mosaic w tile_width tile_height) (size * w.left + shown_column size tile_width x) (w.top + tile_start tile_height y) ≡ false
  shows w tile_width tile_height x y column line =
      let q : ℕ = x / size in
      let at : (size * w.left + shown_column size tile_width x) / size ≡ w.left + tile_start tile_width q =
      mul-add-div some w.left (shown_column size tile_width x) ∙ ap (λ n. w.left + n) (div-mul-add (tile_start tile_width q) size (x % size) (mod_below x size some)) in
      let within : q < w.width = div_below x size w.width some (omega (arith, column, mul_comm size w.width)) in
      let hit = covered w (tile_start tile_width q) (tile_start tile_height y) (omega (arith, within)) (omega (arith, line)) in
      let first = corner w tile_width tile_height q y in
      rw (at, hit, first) refl

  mosaic_alike : (w : Coded) (tile_width tile_height : ℕ) (g h : Grid ℕ) → AlikeBut (hides (Mosaic w tile_width tile_height)) g h
      → mosaic_by size tile_width tile_height (window_view h (in_bytes size w)) ≡ mosaic_by size tile_width tile_height (window_view g (in_bytes size w))
  unfolding view
  mosaic_alike w tile_width tile_height g h a =
      same_grids (size * w.width) w.height _ _ (λ x y column line.
      let sx = shown_column size tile_width x in
      let sy = tile_start tile_height y in
      ap (λ o. cond (is_place (size * w.width) w.height sx sy) o None) (sym (a.2 (size * w.left + sx) (w.top + sy) (shows w tile_width tile_height x y column line))))

  mosaic_hides : (w : Coded) (tile_width tile_height : ℕ) (g h : Grid ℕ) → AlikeBut (hides (Mosaic w tile_width tile_height)) g h
      → AlikeBut later (changed size (Mosaic w tile_width tile_height) g) (changed size (Mosaic w tile_width tile_height) h)
  unfolding view
  mosaic_hides w tile_width tile_height g h a =
      patched (hides (Mosaic w tile_width tile_height)) later (size * w.left) w.top (size * w.width) w.height g h
      (mosaic_by size tile_width tile_height (window_view g (in_bytes size w))) (mosaic_by size tile_width tile_height (window_view h (in_bytes size w))) refl refl
      (mosaic_alike w tile_width tile_height g h a) (λ x y miss. let out = beside w x y miss in rw out refl) a

  -- all of the window counts
  view_alike : (c : Change (List ℕ)) (w : Coded) (g h : Grid ℕ) → ((x y : ℕ) → hides c x y ≡ cond (covers w.left w.top w.width w.height (x / size) y) false (later x y)) → AlikeBut (hides c) g h
      → window_view g (in_bytes size w) ≡ window_view h (in_bytes size w)
  unfolding view
  view_alike c w g h shows a =
      same_grids (size * w.width) w.height _ _ (λ x y column line.
      let hit = (covers_decides (size * w.left) w.top (size * w.width) w.height (size * w.left + x) (w.top + y)).1 (omega arith, omega arith, omega (arith, column), omega (arith, line)) in
      let inside = sym (covers_pixels size w.left w.top w.width w.height (size * w.left + x) (w.top + y) some) ∙ hit in
      a.2 (size * w.left + x) (w.top + y) (shows (size * w.left + x) (w.top + y) ∙ (rw inside refl)))

  -- of which a grid of its size is made
  made_hides : (c : Change (List ℕ)) (w : Coded) (make : Grid ℕ → Grid ℕ) (g h : Grid ℕ) → ((k : Grid ℕ) → (make k).width ≡ k.width) → ((k : Grid ℕ) → (make k).height ≡ k.height)
      → ((x y : ℕ) → hides c x y ≡ cond (covers w.left w.top w.width w.height (x / size) y) false (later x y)) → AlikeBut (hides c) g h
      → AlikeBut later (patch g (size * w.left) w.top (make (window_view g (in_bytes size w)))) (patch h (size * w.left) w.top (make (window_view h (in_bytes size w))))
  unfolding view
  made_hides c w make g h wide high shows a =
      patched (hides c) later (size * w.left) w.top (size * w.width) w.height g h (make (window_view g (in_bytes size w))) (make (window_view h (in_bytes size w)))
      (wide (window_view g (in_bytes size w))) (high (window_view g (in_bytes size w)))
      (sym (ap make (view_alike c w g h shows a))) (λ x y miss. let out = beside w x y miss in shows x y ∙ (rw out refl)) a

  flip_hides : (axes : Axes) (g h : Grid ℕ) → g.width ≡ size * width → g.height ≡ height → AlikeBut (hides (Flip axes)) g h → AlikeBut later (flipped_by size axes g) (flipped_by size axes h)
  flip_hides Rows g h wide high a = rows_hide later height g h high a
  flip_hides Columns g h wide high a = columns_hide size pixels width g h some wide a
  flip_hides Both g h wide high a =
      rows_hide later height (mirrored_by size g) (mirrored_by size h) high (columns_hide size (λ x y. pixels x (height - 1 - y)) width g h some wide a)

  one_step : (named : Bool) (c : Change (List ℕ)) (g h : Grid ℕ) → g.width ≡ size * width → g.height ≡ height → AlikeBut (λ x y. cond named (hides c x y) (later x y)) g h
      → AlikeBut later (cond named (changed size c g) g) (cond named (changed size c h) h)
  one_step false c g h wide high a = a
  one_step true (Fill w value) g h wide high a = fill_hides w value g h a
  one_step true (Mosaic w tile_width tile_height) g h wide high a = mosaic_hides w tile_width tile_height g h a
  one_step true (Mean w tile_width tile_height bytes) g h wide high a =
      made_hides (Mean w tile_width tile_height bytes) w (sample_mosaic (bytes_for size bytes) size tile_width tile_height) g h (λ k. refl) (λ k. refl) (λ x y. refl) a
  one_step true (Blur w across down bytes) g h wide high a =
      made_hides (Blur w across down bytes) w (blurred (bytes_for size bytes) size across down) g h (λ k. refl) (λ k. refl) (λ x y. refl) a
  one_step true (Move w left top) g h wide high a = grind (arith, all_same)
  one_step true (Flip axes) g h wide high a = flip_hides axes g h wide high a

-- a change leaves the size
size_kept : (size : ℕ) (named : Bool) (c : Change (List ℕ)) (g : Grid ℕ) → ((cond named (changed size c g) g).width ≡ g.width) × ((cond named (changed size c g) g).height ≡ g.height)
unfolding patch flipped
size_kept size false c g = (refl, refl)
size_kept size true (Fill w value) g = (refl, refl)
size_kept size true (Mosaic w tile_width tile_height) g = (refl, refl)
size_kept size true (Mean w tile_width tile_height bytes) g = (refl, refl)
size_kept size true (Blur w across down bytes) g = (refl, refl)
size_kept size true (Move w left top) g = (refl, refl)
size_kept size true (Flip Rows) g = (refl, refl)
size_kept size true (Flip Columns) g = (refl, refl)
size_kept size true (Flip Both) g = (refl, refl)

-- ---- all steps of a plane, and all planes

steps_hide : (size width height number : ℕ) (steps : List (Step (List ℕ))) (g h : Grid ℕ) → 0 < size → g.width ≡ size * width → g.height ≡ height
    → AlikeBut (λ x y. is_hidden width height number steps (x / size) y) g h → stepped size number steps g ≡ stepped size number steps h
steps_hide size width height number [] g h some wide high a = all_same g h a
steps_hide size width height number (s ∷ ss) g h some wide high a =
    let kept = size_kept size (names s number) s.change g in
    steps_hide size width height number ss _ _ some (kept.0 ∙ wide) (kept.1 ∙ high) (one_step size some width height (is_hidden width height number ss) (names s number) s.change g h wide high a)

-- a plane of no bytes shows nothing
no_bytes : (j : Job) (p q : List ℕ) → j.size ≡ 0 → plane_grid j p ≡ plane_grid j q
unfolding grid_of
no_bytes j p q none =
    let width : j.size * j.width ≡ 0 = ap (λ n. n * j.width) none ∙ zero-mul j.width in
    same_grids (j.size * j.width) j.height (pixel (layout p (j.size * j.width) j.height (j.size * j.width))) (pixel (layout q (j.size * j.width) j.height (j.size * j.width))) (λ x y column line. absurd (omega (arith, column, width)))

pub planes_hide : (number : ℕ) (jobs : List Job) (p q : List ℕ) → PlanesAlike number jobs p q → changed_planes number jobs p ≡ changed_planes number jobs q
unfolding grid_of
planes_hide number [] p q alike = alike
planes_hide number (j ∷ js) p q alike =
    let a = alike.0 in
    let same : stepped j.size number j.steps (plane_grid j (take (job_len j) p)) ≡ stepped j.size number j.steps (plane_grid j (take (job_len j) q)) =
    elim (cases_lt 0 j.size) [
      | inl some ↦ steps_hide j.size j.width j.height number j.steps _ _ some refl refl (a.same_width, a.same_height, a.shown)
      | inr none ↦ ap (stepped j.size number j.steps) (no_bytes j (take (job_len j) p) (take (job_len j) q) (omega (arith, none)))
    ] in
    let first : changed_plane number j (take (job_len j) p) ≡ changed_plane number j (take (job_len j) q) = ap grid_pixels same in
    let others : changed_planes number js (drop (job_len j) p) ≡ changed_planes number js (drop (job_len j) q) = planes_hide number js (drop (job_len j) p) (drop (job_len j) q) alike.1 in
    λ i. first i ++ others i

-- ---- what means and blurs reveal

-- patches that are one, of grids that are the same beside them
same_beside : (left top width height : ℕ) (g h p q : Grid ℕ) → p.width ≡ width → p.height ≡ height → p ≡ q → g.width ≡ h.width → g.height ≡ h.height
    → ((x y : ℕ) → covers left top width height x y ≡ false → g.pixel x y ≡ h.pixel x y) → patch g left top p ≡ patch h left top q
unfolding patch
same_beside left top width height g h p q across down same wide high beside = all_same _ _ (grind (arith, other_way))

only_made : (size : ℕ) (w : Coded) (make : Grid ℕ → Grid ℕ) (g h : Grid ℕ) → ((k : Grid ℕ) → (make k).width ≡ k.width) → ((k : Grid ℕ) → (make k).height ≡ k.height) → MadeAlike size w make g h
    → patch g (size * w.left) w.top (make (window_view g (in_bytes size w))) ≡ patch h (size * w.left) w.top (make (window_view h (in_bytes size w)))
unfolding view
only_made size w make g h across down a =
    same_beside (size * w.left) w.top (size * w.width) w.height g h (make (window_view g (in_bytes size w))) (make (window_view h (in_bytes size w)))
    (across (window_view g (in_bytes size w))) (down (window_view g (in_bytes size w))) a.made a.same_width a.same_height a.beside

pub only_means : (size : ℕ) (w : Coded) (tile_width tile_height : ℕ) (bytes : SampleBytes) (g h : Grid ℕ) → MeansAlike size w tile_width tile_height bytes g h → changed size (Mean w tile_width tile_height bytes) g ≡ changed size (Mean w tile_width tile_height bytes) h
only_means size w tile_width tile_height bytes g h a = only_made size w (sample_mosaic (bytes_for size bytes) size tile_width tile_height) g h (λ k. refl) (λ k. refl) a

pub only_boxes : (size : ℕ) (w : Coded) (across down : ℕ) (bytes : SampleBytes) (g h : Grid ℕ) → BoxesAlike size w across down bytes g h → changed size (Blur w across down bytes) g ≡ changed size (Blur w across down bytes) h
only_boxes size w across down bytes g h a = only_made size w (blurred (bytes_for size bytes) size across down) g h (λ k. refl) (λ k. refl) a
