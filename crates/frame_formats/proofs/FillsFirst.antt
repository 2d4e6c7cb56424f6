-- Where covers and fills come first among edits, fills come first in each plane of each frame.
use Rattle.std.proofs.Common.{◌≡◌, ℕ, ◌+◌, ◌-◌, ◌*◌, ◌/◌, ◌<◌, ◌≤◌, ◌&&◌, ◌||◌, ◌==◌, Bool, true, false, not, nat_lt, if◌then◌else◌, List, [], ◌∷◌, ◌++◌, Option, Some, None, refl, sym, ap, subst, ◌∙◌, arith}
use Rattle.std.specs.List.{list_any}
use Rattle.std.specs.Option.{option_map}
use Rattle.std.proofs.Math.Nat.{div-mul-le_self, mul-le-mul_right}
use Rattle.std.proofs.lemmas.Nat.{le-div}
use Rattle.texts.proofs.Options.{some_is}
use Rattle.texts.specs.Reading.{◌>>=◌}
use Rattle.image_planes.specs.Changes.{Job, is_job, job, job_for, names}
use Rattle.image_commands.specs.Changes.{fills, spreads}
use Rattle.image_planes.specs.Filled.{FillFirst, PlanesUnfilled, any_fills, fills_first}
use Rattle.image_planes.specs.Resized.{Resizing, new_height, new_width}
use Rattle.image_planes.specs.Unseen.{PlanesAlike}
use Rattle.image_commands.specs.declared.changes.Change.{Change}
use Rattle.image_commands.specs.declared.changes.Change.TheVariants.{Fill, Mosaic, Mean, Blur, Move, Flip}
use Rattle.image_planes.specs.declared.change.Step.{Step}
use Rattle.image_planes.specs.declared.target.Resize.{Resize}
use Rattle.frame_edits.specs.Covers.{frames_for, one_pixel, settled_by, turns_over, video_unit}
use Rattle.frame_edits.specs.Order.{covers_first, ends_after, fills_late, may_meet}
use Rattle.frame_edits.specs.declared.covers.Unit.{Unit}
use Rattle.frame_edits.specs.declared.framing.Framing.{Framing}
use Rattle.frame_edits.specs.declared.paint.Paint.{Paint}
use Rattle.frame_edits.specs.declared.paint.Paint.TheVariants.{Grey, Black, Colour, Around}
use Rattle.frame_edits.specs.declared.words.Edit.{Edit}
use Rattle.frame_edits.specs.declared.words.Scope.{Scope}
use Rattle.frame_edits.specs.declared.words.Scope.TheVariants.{Exact, Boxed}
use Rattle.frame_texts.specs.Format.{format_of, is_upright}
use Rattle.frame_texts.specs.Heads.{head_text}
use Rattle.frame_texts.specs.VideoLine.{resized}
use Rattle.frame_texts.specs.Pixels.{pixel_size}
use Rattle.frame_texts.specs.Rates.{rate_of}
use Rattle.frame_texts.specs.declared.header.Format.{Format}
use Rattle.frame_texts.specs.declared.picture.Picture.{Picture}
use Rattle.frame_texts.specs.declared.pixel.Pixel.{Pixel}
use Rattle.frame_texts.specs.declared.rate.Rate.{Rate}
use Rattle.frame_texts.specs.Ranges.{end_at, frame_at, frames_in}
use Rattle.frame_texts.specs.declared.ranges.Range.{Range}
use Rattle.frame_texts.specs.declared.ranges.Range.TheVariants.{Frames, Times}
use Rattle.frame_formats.specs.Framings.{resize_for}
use Rattle.frame_formats.specs.Layers.{across_of, change_on, down_of, job_on, jobs_on, layer_height, layer_width, picture_layers, picture_pixel, resizings_on, value_on, video_layers, window_on}
use Rattle.frame_formats.specs.Recipe.{PicturesHideFilled, Recipe, VideosHideFilled, finished_picture, finished_video, recipe, resized_picture}
use Rattle.frame_formats.specs.Sampling.{at_corner, exact_samples, samples}
use Rattle.frame_formats.specs.Steps.{all_some, bytes_of, step_by, step_in, value_in}
use Rattle.frame_formats.specs.declared.layers.Layer.{Layer}

-- ---- what something was made of

bound : {A B : Type 0} (o : Option A) (k : A → Option B) (d : B) → (o >>= k) ≡ Some d → (v : A) × (o ≡ Some v) × (k v ≡ Some d)
bound None k d made = absurd cc
bound (Some v) k d made = (v, refl, made)

mapped : {A B : Type 0} (g : A → B) (o : Option A) (d : B) → option_map g o ≡ Some d → (v : A) × (o ≡ Some v) × (g v ≡ d)
mapped g None d made = absurd cc
mapped g (Some v) d made = (v, refl, some_is (g v) d made)

kept : {A : Type 0} (b : Bool) (o : Option A) (d : A) → (if b then None else o) ≡ Some d → o ≡ Some d
kept true o d made = absurd cc
kept false o d made = made

record Made {A B : Type 0} (f : A → Option B) (x : A) (xs : List A) (ys : List B) : Type 0 where
  first : B
  rest : List B
  here : f x ≡ Some first
  others : all_some f xs ≡ Some rest
  are : ys ≡ first ∷ rest

made_of : {A B : Type 0} (f : A → Option B) (x : A) (xs : List A) (ys : List B) → all_some f (x ∷ xs) ≡ Some ys → Made f x xs ys
unfolding all_some
made_of f x xs ys made =
    let one = bound (f x) (λ y. all_some f xs >>= λ zs. Some (y ∷ zs)) ys made in
    let more = bound (all_some f xs) (λ zs. Some (one.0 ∷ zs)) ys one.2 in
    record { first = one.0; rest = more.0; here = one.1; others = more.1; are = sym (some_is (one.0 ∷ more.0) ys more.2) }

none_made : {A B : Type 0} (f : A → Option B) (ys : List B) → all_some f [] ≡ Some ys → ys ≡ []
unfolding all_some
none_made f ys made = sym (some_is [] ys made)

both : (a b : Bool) → a && b ≡ true → (a ≡ true) × (b ≡ true)
both true b e = (refl, e)
both false b e = cc

not_false : (b : Bool) → not b ≡ true → b ≡ false
not_false true e = cc
not_false false e = refl

neither : (a b : Bool) → a || b ≡ false → (a ≡ false) × (b ≡ false)
neither true b e = cc
neither false b e = (refl, e)

-- ---- changes of one kind

abbrev SameKind : {V W : Type 0} → Change V → Change W → Type 0
SameKind c d = (spreads d ≡ spreads c) × (fills d ≡ fills c)

same_kind : {V W : Type 0} (c : Change V) (d e : Change W) → d ≡ e → SameKind c d → SameKind c e
same_kind c d e is same = (ap spreads (sym is) ∙ same.0, ap fills (sym is) ∙ same.1)

settled_kind : (scope : Scope) (s : Unit) (width height : ℕ) (c : Change Paint) → SameKind c (settled_by scope s width height c)
settled_kind Exact s width height (Fill w (Grey value)) = (refl, refl)
settled_kind Exact s width height (Fill w Black) = (refl, refl)
settled_kind Exact s width height (Fill w (Colour red green blue)) = (refl, refl)
settled_kind Exact s width height (Fill w (Around (Some value) margin)) = (refl, refl)
settled_kind Exact s width height (Fill w (Around None margin)) = (refl, refl)
settled_kind Exact s width height (Mosaic w wide high) = (refl, refl)
settled_kind Exact s width height (Mean w wide high bytes) = (refl, refl)
settled_kind Exact s width height (Blur w across down bytes) = (refl, refl)
settled_kind Exact s width height (Move w left top) = (refl, refl)
settled_kind Exact s width height (Flip axes) = (refl, refl)
settled_kind (Boxed margin) s width height (Fill w paint) = (refl, refl)
settled_kind (Boxed margin) s width height (Mosaic w wide high) = (refl, refl)
settled_kind (Boxed margin) s width height (Mean w wide high bytes) = (refl, refl)
settled_kind (Boxed margin) s width height (Blur w across down bytes) = (refl, refl)
settled_kind (Boxed margin) s width height (Move w left top) = (refl, refl)
settled_kind (Boxed margin) s width height (Flip axes) = (refl, refl)

-- the same where it is made of something more
abbrev MadesKind : Change Paint → Option (Change (List ℕ)) → Type 0
MadesKind c o = (d : Change (List ℕ)) → o ≡ Some d → SameKind c d

of_more : {A : Type 0} (c : Change Paint) (o : Option A) (k : A → Option (Change (List ℕ))) → ((v : A) → MadesKind c (k v)) → MadesKind c (o >>= k)
of_more c None k each d made = absurd cc
of_more c (Some v) k each d made = each v d made

at_last : (c : Change Paint) (e : Change (List ℕ)) → SameKind c e → MadesKind c (Some e)
at_last c e same d made = same_kind c e d (some_is e d made) same

on_kind : (pixel : Pixel) (layer : Layer) (width height : ℕ) (c : Change Paint) (d : Change (List ℕ)) → change_on pixel layer width height c ≡ Some d → SameKind c d
unfolding change_on
on_kind pixel layer width height (Fill w paint) d made =
    of_more (Fill w paint) (value_in pixel paint) (λ value. window_on layer width height w >>= λ under. Some (Fill under (value_on pixel layer value)))
    (λ value. of_more (Fill w paint) (window_on layer width height w) (λ under. Some (Fill under (value_on pixel layer value))) (λ under. at_last (Fill w paint) (Fill under (value_on pixel layer value)) (refl, refl))) d made
on_kind pixel layer width height (Mosaic w wide high) d made =
    of_more (Mosaic w wide high) (window_on layer width height w) (λ under. exact_samples (across_of layer) wide >>= λ a. exact_samples (down_of layer) high >>= λ b. Some (Mosaic under a b))
    (λ under. of_more (Mosaic w wide high) (exact_samples (across_of layer) wide) (λ a. exact_samples (down_of layer) high >>= λ b. Some (Mosaic under a b))
    (λ a. of_more (Mosaic w wide high) (exact_samples (down_of layer) high) (λ b. Some (Mosaic under a b)) (λ b. at_last (Mosaic w wide high) (Mosaic under a b) (refl, refl)))) d made
on_kind pixel layer width height (Mean w wide high bytes) d made =
    of_more (Mean w wide high bytes) (window_on layer width height w) (λ under. exact_samples (across_of layer) wide >>= λ a. exact_samples (down_of layer) high >>= λ b. Some (Mean under a b (bytes_of pixel)))
    (λ under. of_more (Mean w wide high bytes) (exact_samples (across_of layer) wide) (λ a. exact_samples (down_of layer) high >>= λ b. Some (Mean under a b (bytes_of pixel)))
    (λ a. of_more (Mean w wide high bytes) (exact_samples (down_of layer) high) (λ b. Some (Mean under a b (bytes_of pixel))) (λ b. at_last (Mean w wide high bytes) (Mean under a b (bytes_of pixel)) (refl, refl)))) d made
on_kind pixel layer width height (Blur w across down bytes) d made =
    of_more (Blur w across down bytes) (window_on layer width height w) (λ under. Some (Blur under (samples across (across_of layer)) (samples down (down_of layer)) (bytes_of pixel)))
    (λ under. at_last (Blur w across down bytes) (Blur under (samples across (across_of layer)) (samples down (down_of layer)) (bytes_of pixel)) (refl, refl)) d made
on_kind pixel layer width height (Move w left top) d made =
    of_more (Move w left top) (window_on layer width height w) (λ under. window_on layer width height (at_corner w left top) >>= λ goal. Some (Move under goal.left goal.top))
    (λ under. of_more (Move w left top) (window_on layer width height (at_corner w left top)) (λ goal. Some (Move under goal.left goal.top)) (λ goal. at_last (Move w left top) (Move under goal.left goal.top) (refl, refl))) d made
on_kind pixel layer width height (Flip axes) d made = at_last (Flip axes) (Flip axes) (refl, refl) d made

-- ---- steps of the same frames

record SameStep {V W : Type 0} (s : Step V) (t : Step W) : Type 0 where
  first : t.first ≡ s.first
  end : t.end ≡ s.end
  spread : spreads t.change ≡ spreads s.change
  fill : fills t.change ≡ fills s.change

by_same : {V W : Type 0} (become : Change V → Option (Change W)) (kind : (c : Change V) (d : Change W) → become c ≡ Some d → SameKind c d) (s : Step V) (t : Step W) → step_by become s ≡ Some t → SameStep s t
by_same become kind s t made =
    let v = mapped (λ change. record { first = s.first; end = s.end; change = change }) (become s.change) t made in
    let same = kind s.change v.0 v.1 in
    record {
      first = ap (λ u. u.first) (sym v.2);
      end = ap (λ u. u.end) (sym v.2);
      spread = ap (λ u. spreads u.change) (sym v.2) ∙ same.0;
      fill = ap (λ u. fills u.change) (sym v.2) ∙ same.1;
    }

module _ {V W : Type 0} (f : Step V → Option (Step W)) (same : (s : Step V) (t : Step W) → f s ≡ Some t → SameStep s t) (number : ℕ) where
  same_names : (s : Step V) (t : Step W) → SameStep s t → names t number ≡ names s number
  same_names s t is = rw (is.first, is.end) refl

  any_same : (ss : List (Step V)) (ts : List (Step W)) → all_some f ss ≡ Some ts → any_fills number ts ≡ any_fills number ss
  any_same [] ts made = ap (any_fills number) (none_made f ts made)
  any_same (s ∷ ss) ts made =
      let m = made_of f s ss ts made in
      let is = same s m.first m.here in
      ap (any_fills number) m.are ∙ (rw (same_names s m.first is, is.fill, any_same ss m.rest m.others) refl)

  first_same : (ss : List (Step V)) (ts : List (Step W)) → all_some f ss ≡ Some ts → fills_first number ts ≡ fills_first number ss
  first_same [] ts made = ap (fills_first number) (none_made f ts made)
  first_same (s ∷ ss) ts made =
      let m = made_of f s ss ts made in
      let is = same s m.first m.here in
      ap (fills_first number) m.are ∙ (rw (same_names s m.first is, is.spread, any_same ss m.rest m.others, first_same ss m.rest m.others) refl)

-- ---- ranges that have a frame in common

earlier : (rate : Rate) (a b : ℕ) → 0 < rate.seconds → a ≤ b → frame_at rate a ≤ frame_at rate b
earlier rate a b some before =
    let step : ℕ = rate.seconds * 1000000000 in
    let more : a * rate.frames ≤ b * rate.frames = mul-le-mul_right rate.frames before in
    let whole : (a * rate.frames + (step - 1)) / step * step ≤ a * rate.frames + (step - 1) = div-mul-le_self (a * rate.frames + (step - 1)) step in
    let least : (a * rate.frames + (step - 1)) / step ≤ (b * rate.frames + (step - 1)) / step = le-div ((a * rate.frames + (step - 1)) / step) (b * rate.frames + (step - 1)) step (omega (arith, some)) (omega (arith, more, whole)) in
    omega (arith, least)

before_stop : (rate : Rate) (from : ℕ) (stop : Option ℕ) (n : ℕ) → 0 < rate.seconds → frame_at rate from ≤ n → n < end_at rate stop → ends_after from stop ≡ true
before_stop rate from None n some there before = refl
before_stop rate from (Some stop) n some there before = elim (nat_lt from stop) as (λ b. nat_lt from stop ≡ b → b ≡ true) [
  | true ↦ λ is. refl
  | false ↦ λ is. absurd (let late = earlier rate stop from some (grind (arith, is)) in omega (arith, late, there, before))
] refl

record Spans (rate : Option Rate) (range : Range) (n : ℕ) : Type 0 where
  first : ℕ
  end : ℕ
  found : frames_in rate range ≡ Some (first, end)
  from : first ≤ n
  before : n < end

-- a frame of a range of times, at a rate
record Timed (rate : Rate) (from : ℕ) (to : Option ℕ) (n : ℕ) : Type 0 where
  some : 0 < rate.seconds
  there : frame_at rate from ≤ n
  before : n < end_at rate to

timed : (rate : Rate) (from : ℕ) (to : Option ℕ) (n : ℕ) → Spans (Some rate) (Times from to) n → Timed rate from to n
timed rate from to n a =
    let found = a.found in
    let first : frame_at rate from ≡ a.first = grind (arith, found) in
    let end : end_at rate to ≡ a.end = grind (arith, found) in
    record { some = grind (arith, found); there = omega (arith, first, a.from); before = omega (arith, end, a.before) }

meet : (rate : Option Rate) (one other : Range) (n : ℕ) → Spans rate one n → Spans rate other n → may_meet one other ≡ true
meet rate (Frames first end) (Frames start stop) n a b =
    let one = some_is (first, end) (a.first, a.end) a.found in
    let two = some_is (start, stop) (b.first, b.end) b.found in
    let first_is : first ≡ a.first = ap (λ p. p.0) one in
    let end_is : end ≡ a.end = ap (λ p. p.1) one in
    let start_is : start ≡ b.first = ap (λ p. p.0) two in
    let stop_is : stop ≡ b.end = ap (λ p. p.1) two in
    grind (arith, first_is, end_is, start_is, stop_is, a.from, a.before, b.from, b.before)
meet rate (Frames first end) (Times start stop) n a b = refl
meet rate (Times from to) (Frames start stop) n a b = refl
meet None (Times from to) (Times start stop) n a b = absurd (let no = a.found in cc)
meet (Some rate) (Times from to) (Times start stop) n a b =
    let one = timed rate from to n a in
    let two = timed rate start stop n b in
    let left = before_stop rate from stop n one.some one.there two.before in
    let right = before_stop rate start to n one.some two.there one.before in
    rw (left, right) refl

-- ---- edits as steps

module _ (unit : Unit) (rate : Option Rate) (width height : ℕ) where
  record IsStep (e : Edit) (t : Step Paint) : Type 0 where
    frames : frames_in rate e.range ≡ Some (t.first, t.end)
    spread : spreads t.change ≡ spreads e.change
    fill : fills t.change ≡ fills e.change

  is_step : (e : Edit) (t : Step Paint) → step_in unit rate width height e ≡ Some t → IsStep e t
  is_step e t made =
      let v = mapped (λ span. record { first = span.0; end = span.1; change = settled_by e.scope unit width height e.change }) (frames_for unit rate e) t made in
      let kind = settled_kind e.scope unit width height e.change in
      let spanned = kept (unit.interlaced && turns_over e.change) (frames_in rate e.range) v.0 v.1 in
      record {
        frames = spanned ∙ ap (λ (u : Step Paint). Some (u.first, u.end)) v.2;
        spread = ap (λ (u : Step Paint). spreads u.change) (sym v.2) ∙ kind.0;
        fill = ap (λ (u : Step Paint). fills u.change) (sym v.2) ∙ kind.1;
      }

  spans : (e : Edit) (t : Step Paint) (n : ℕ) → IsStep e t → names t n ≡ true → Spans rate e.range n
  spans e t n is named = record { first = t.first; end = t.end; found = is.frames; from = grind (arith, named); before = grind (arith, named) }

  -- after an edit that spreads pixels in a frame nothing fills there
  none_later : (e : Edit) (n : ℕ) → spreads e.change ≡ true → Spans rate e.range n → (es : List Edit) (ts : List (Step Paint)) → list_any (λ later. fills_late e later) es ≡ false
      → all_some (step_in unit rate width height) es ≡ Some ts → any_fills n ts ≡ false
  none_later e n spread here [] ts none made = ap (any_fills n) (none_made (step_in unit rate width height) ts made)
  none_later e n spread here (f ∷ es) ts none made =
      let m = made_of (step_in unit rate width height) f es ts made in
      let is = is_step f m.first m.here in
      let parts = neither (fills_late e f) (list_any (λ later. fills_late e later) es) none in
      let more = none_later e n spread here es m.rest parts.1 m.others in
      ap (any_fills n) m.are ∙ (
      elim (names m.first n && fills m.first.change) as (λ b. (names m.first n && fills m.first.change) ≡ b → (b || any_fills n m.rest) ≡ false) [
        | true ↦ λ some. absurd (
            let it = both (names m.first n) (fills m.first.change) some in
            let there = meet rate e.range f.range n here (spans f m.first n is it.0) in
            let filled : fills f.change ≡ true = sym is.fill ∙ it.1 in
            let late : fills_late e f ≡ true = rw (spread, filled, there) refl in
            let no = parts.0 in
            cc)
        | false ↦ λ no. more
      ] refl)

  steps_first : (n : ℕ) (es : List Edit) (ts : List (Step Paint)) → covers_first es ≡ true → all_some (step_in unit rate width height) es ≡ Some ts → fills_first n ts ≡ true
  steps_first n [] ts first made = ap (fills_first n) (none_made (step_in unit rate width height) ts made)
  steps_first n (e ∷ es) ts first made =
      let m = made_of (step_in unit rate width height) e es ts made in
      let is = is_step e m.first m.here in
      let parts = both (not (list_any (λ later. fills_late e later) es)) (covers_first es) first in
      let none = not_false (list_any (λ later. fills_late e later) es) parts.0 in
      let more = steps_first n es m.rest parts.1 m.others in
      ap (fills_first n) m.are ∙ (
      elim (names m.first n && spreads m.first.change) as (λ b. (names m.first n && spreads m.first.change) ≡ b → ((if b then not (any_fills n m.rest) else true) && fills_first n m.rest) ≡ true) [
        | true ↦ λ some. (
            let it = both (names m.first n) (spreads m.first.change) some in
            let later = none_later e n (sym is.spread ∙ it.1) (spans e m.first n is it.0) es m.rest none m.others in
            rw (later, more) refl)
        | false ↦ λ no. more
      ] refl)

-- ---- planes

job_steps : (pixel : Pixel) (layer : Layer) (width height n : ℕ) (steps : List (Step Paint)) (j : Job) → fills_first n steps ≡ true → job_on pixel layer width height steps ≡ Some j → fills_first n j.steps ≡ true
job_steps pixel layer width height n steps j first made =
    let v = bound (all_some (step_by (change_on pixel layer width height)) steps) (job_for (pixel_size pixel) (layer_width layer width) (layer_height layer height)) j made in
    let same = first_same (step_by (change_on pixel layer width height)) (by_same (change_on pixel layer width height) (on_kind pixel layer width height)) n steps v.0 v.1 in
    ap (fills_first n) (sym (planned (is_job (pixel_size pixel) (layer_width layer width) (layer_height layer height) v.0) (job (pixel_size pixel) (layer_width layer width) (layer_height layer height) v.0) v.2)) ∙ same ∙ first
  where
    planned : (b : Bool) (k : Job) → (if b then Some k else None) ≡ Some j → k.steps ≡ j.steps
    planned true k is = ap (λ (i : Job). i.steps) (some_is k j is)
    planned false k is = absurd cc

jobs_first : (pixel : Pixel) (width height n : ℕ) (steps : List (Step Paint)) → fills_first n steps ≡ true → (layers : List Layer) (jobs : List Job) → jobs_on pixel layers width height steps ≡ Some jobs → FillFirst n jobs
jobs_first pixel width height n steps first [] jobs made = subst (FillFirst n) (sym (none_made (λ layer. job_on pixel layer width height steps) jobs made)) tt
jobs_first pixel width height n steps first (layer ∷ layers) jobs made =
    let m = made_of (λ layer. job_on pixel layer width height steps) layer layers jobs made in
    subst (FillFirst n) (sym m.are) (job_steps pixel layer width height n steps m.first first m.here, jobs_first pixel width height n steps first layers m.rest m.others)

-- ---- recipes

abbrev FilledAlike : Type 0
FilledAlike = (number : ℕ) (jobs : List Job) (cells others : List ℕ) → FillFirst number jobs → PlanesUnfilled number jobs cells others → PlanesAlike number jobs cells others

jobs_stay : (head : Resize → List ℕ) (jobs : List Job) (more : Resize → Option (List Resizing)) (resize : Option Resize) (r : Recipe)
    → (resize >>= λ s. if new_height s == 0 then None else option_map (λ resizings. recipe (head s) jobs (Some resizings)) (more s)) ≡ Some r → r.jobs ≡ jobs
jobs_stay head jobs more resize r made =
    let v = bound resize (λ s. if new_height s == 0 then None else option_map (λ resizings. recipe (head s) jobs (Some resizings)) (more s)) r made in
    let o = kept (new_height v.0 == 0) (option_map (λ resizings. recipe (head v.0) jobs (Some resizings)) (more v.0)) r v.2 in
    let w = mapped (λ resizings. recipe (head v.0) jobs (Some resizings)) (more v.0) r o in
    ap (λ (s : Recipe). s.jobs) (sym w.2)

video_jobs : (line : List ℕ) (format : Format) (jobs : List Job) (framing : Option Framing) (r : Recipe) → finished_video line format jobs framing ≡ Some r → r.jobs ≡ jobs
video_jobs line format jobs None r made = ap (λ (s : Recipe). s.jobs) (sym (some_is (recipe (line ++ 10 ∷ []) jobs None) r made))
video_jobs line format jobs (Some framing) r made =
    jobs_stay (λ s. resized (new_width s) (new_height s) line ++ 10 ∷ []) jobs (λ s. resizings_on format.pixel (video_layers format.chroma) format.width format.height s)
    (resize_for (is_upright format) format.pixel format.width format.height framing) r made

picture_jobs : (p : Picture) (jobs : List Job) (framing : Option Framing) (r : Recipe) → finished_picture p jobs framing ≡ Some r → r.jobs ≡ jobs
picture_jobs p jobs None r made = ap (λ (s : Recipe). s.jobs) (sym (some_is (recipe (head_text p) jobs None) r made))
picture_jobs p jobs (Some framing) r made =
    jobs_stay (λ s. head_text (resized_picture p (new_width s) (new_height s))) jobs (λ s. resizings_on (picture_pixel p) picture_layers p.width p.height s)
    (resize_for true (picture_pixel p) p.width p.height framing) r made

pub videos_fill : FilledAlike → VideosHideFilled
videos_fill law e line r first made number p q a =
    let f = bound (format_of line) (λ format. all_some (step_in (video_unit format) (rate_of line) format.width format.height) e.steps >>= λ steps. jobs_on format.pixel (video_layers format.chroma) format.width format.height steps >>= λ jobs. finished_video line format jobs e.framing) r made in
    let s = bound (all_some (step_in (video_unit f.0) (rate_of line) f.0.width f.0.height) e.steps) (λ steps. jobs_on f.0.pixel (video_layers f.0.chroma) f.0.width f.0.height steps >>= λ jobs. finished_video line f.0 jobs e.framing) r f.2 in
    let j = bound (jobs_on f.0.pixel (video_layers f.0.chroma) f.0.width f.0.height s.0) (λ jobs. finished_video line f.0 jobs e.framing) r s.2 in
    let steps = steps_first (video_unit f.0) (rate_of line) f.0.width f.0.height number e.steps s.0 first s.1 in
    let jobs = jobs_first f.0.pixel f.0.width f.0.height number s.0 steps (video_layers f.0.chroma) j.0 j.1 in
    law number r.jobs p q (subst (FillFirst number) (sym (video_jobs line f.0 j.0 e.framing r j.2)) jobs) a

pub pictures_fill : FilledAlike → PicturesHideFilled
pictures_fill law e i r first made number p q a =
    let s = bound (all_some (step_in one_pixel None i.width i.height) e.steps) (λ steps. jobs_on (picture_pixel i) picture_layers i.width i.height steps >>= λ jobs. finished_picture i jobs e.framing) r made in
    let j = bound (jobs_on (picture_pixel i) picture_layers i.width i.height s.0) (λ jobs. finished_picture i jobs e.framing) r s.2 in
    let steps = steps_first one_pixel None i.width i.height number e.steps s.0 first s.1 in
    let jobs = jobs_first (picture_pixel i) i.width i.height number s.0 steps picture_layers j.0 j.1 in
    law number r.jobs p q (subst (FillFirst number) (sym (picture_jobs i j.0 e.framing r j.2)) jobs) a
