-- Paths of nested windows as one window: its view, its stretch, and the path with one more window.
use Rattle.std.proofs.Common.{◌≡◌, ℕ, suc, ◌+◌, ◌≤◌, Option, Some, None, List, [], ◌∷◌, ◌++◌, length, refl, sym, ap, ◌∙◌, subst, arith, add_assoc, rules}
use Rattle.std.proofs.Math.Nat.{zero-add}
use Rattle.std.specs.Option.{option_map}
use Rattle.std.proofs.lemmas.List.Sums.{sum_by-cons, sum_by_push}
use Rattle.std.proofs.lemmas.Bool.{cond-true}
use Rattle.std.proofs.Math.Nat.{mul-add}
use Rattle.image_model.specs.Layout.{Layout, Fits}
use Rattle.image_model.specs.Grid.{grid_of}
use Rattle.image_model.specs.Windows.{Window, window, IsInside, is_inside, Stretch, padded_stretch, first_outside, corner_left, corner_top, path_width, path_height, path_window, path_view, stretch_within, path_stretch, whole, path_layout}
use Rattle.image_model.proofs.Windows.{is_inside_decides, HasWindow, padded_has, window_fits, window_grid}

-- ---- one window in another

-- the window of a window, as one of the whole
abbrev pub nested : Window → Window → Window
nested v w = window (v.left + w.left) (v.top + w.top) w.width w.height

-- a window of a window is inside
pub nested_inside : (width height : ℕ) (v w : Window) → IsInside width height v → IsInside v.width v.height w → IsInside width height (nested v w)
nested_inside width height v w outer inner = (omega (arith, outer, inner), omega (arith, outer, inner))

nested_nested : (u v w : Window) → nested (nested u v) w ≡ nested u (nested v w)
nested_nested u v w = λ i. window (add_assoc u.left v.left w.left i) (add_assoc u.top v.top w.top i) w.width w.height

-- the padded stretch of a window's cells has the window's window
pub nested_has : (count stride : ℕ) (v w : Window) (s : Stretch) → v.width ≤ stride → HasWindow count stride v s → IsInside v.width v.height w
    → HasWindow count stride (nested v w) (stretch_within s (padded_stretch s.len stride w))
nested_has count stride v w s wide has inside =
    let inner = padded_has s.len stride v.width v.height w wide has.reaches inside in
    record {
      begins = λ column line. omega (arith, inside, has.begins (omega (arith, inside)) (omega (arith, inside)), inner.begins column line, mul-add stride v.top w.top);
      reaches = inner.reaches;
      within = omega (arith, has.within, inner.within);
    }

-- ---- the window that a path comes to

-- a path with no window outside begins with a window inside, and the rest has none outside
first_inside : (width height : ℕ) (w : Window) (path : List Window) → first_outside width height (w ∷ path) ≡ None
    → IsInside width height w × (first_outside w.width w.height path ≡ None)
first_inside width height w path e = grind arith

-- the window of a path is the window of its rest in its first window
pub path_window-cons : (width height : ℕ) (w : Window) (path : List Window) → path_window width height (w ∷ path) ≡ nested w (path_window w.width w.height path)
path_window-cons width height w path = search (rules, sum_by-cons)

-- it is inside
pub path_inside : (width height : ℕ) (path : List Window) → first_outside width height path ≡ None → IsInside width height (path_window width height path)
path_inside width height [] e = (omega arith, omega arith)
path_inside width height (w ∷ path) e =
    let p = first_inside width height w path e in
    subst (IsInside width height) (sym (path_window-cons width height w path))
    (nested_inside width height w (path_window w.width w.height path) p.0 (path_inside w.width w.height path p.1))

-- ---- the cells of a path

-- a window's stretch, cut for each window of a path in turn, has the path's window
has_along : (count stride : ℕ) (path : List Window) (v : Window) (s : Stretch) → v.width ≤ stride → HasWindow count stride v s → first_outside v.width v.height path ≡ None
    → HasWindow count stride (nested v (path_window v.width v.height path)) (path_stretch stride s path)
has_along count stride [] v s wide has e = grind arith
has_along count stride (w ∷ path) v s wide has e =
    let p = first_inside v.width v.height w path e in
    let inner : HasWindow count stride (nested v w) (stretch_within s (padded_stretch s.len stride w)) = nested_has count stride v w s wide has p.0 in
    subst (λ u. HasWindow count stride u (path_stretch stride (stretch_within s (padded_stretch s.len stride w)) path))
    (nested_nested v w (path_window w.width w.height path) ∙ ap (nested v) (sym (path_window-cons v.width v.height w path)))
    (has_along count stride path (nested v w) (stretch_within s (padded_stretch s.len stride w)) (omega (arith, p.0)) inner p.1)

module _ {T : Type 0} (l : Layout T) (path : List Window) (wide : l.width ≤ l.stride) (fits : Fits l) (inside : first_outside l.width l.height path ≡ None) where
  -- the stretch of a path has its window: where that isn't empty, from the sum of the corners on
  pub path_has : HasWindow (length l.cells) l.stride (path_window l.width l.height path) (path_stretch l.stride (whole l.cells) path)
  path_has =
      let all : HasWindow (length l.cells) l.stride (window 0 0 l.width l.height) (whole l.cells) = record {
        begins = λ _ _. omega arith;
        reaches = fits;
        within = omega arith;
      } in
      let same : nested (window 0 0 l.width l.height) (path_window l.width l.height path) ≡ path_window l.width l.height path =
      λ i. window (zero-add (corner_left path) i) (zero-add (corner_top path) i) (path_width l.width path) (path_height l.height path) in
      subst (λ u. HasWindow (length l.cells) l.stride u (path_stretch l.stride (whole l.cells) path)) same
      (has_along (length l.cells) l.stride path (window 0 0 l.width l.height) (whole l.cells) wide all inside)

  -- a path's window fits
  pub path_fits : Fits (path_layout l path)
  path_fits = window_fits l (path_window l.width l.height path) (path_stretch l.stride (whole l.cells) path) path_has

  -- and shows the path's view
  pub path_grid : grid_of (path_layout l path) ≡ path_view (grid_of l) path
  unfolding grid_of
  path_grid = window_grid l (path_window l.width l.height path) (path_stretch l.stride (whole l.cells) path) path_has (path_inside l.width l.height path inside)

-- ---- a path with one more window

pub path_width-push : (width : ℕ) (path : List Window) (w : Window) → path_width width (path ++ w ∷ []) ≡ w.width
path_width-push width [] w = refl
path_width-push width (v ∷ path) w = path_width-push v.width path w

pub path_height-push : (height : ℕ) (path : List Window) (w : Window) → path_height height (path ++ w ∷ []) ≡ w.height
path_height-push height [] w = refl
path_height-push height (v ∷ path) w = path_height-push v.height path w

pub path_window-push : (width height : ℕ) (path : List Window) (w : Window) → path_window width height (path ++ w ∷ []) ≡ nested (path_window width height path) w
path_window-push width height path w = grind (arith, sum_by_push, path_width-push, path_height-push)

-- after windows that are inside comes the first one outside of the rest
pub first_outside-append : (width height : ℕ) (path rest : List Window) → first_outside width height path ≡ None
    → first_outside width height (path ++ rest) ≡ option_map (λ n. n + length path) (first_outside (path_width width path) (path_height height path) rest)
first_outside-append width height [] rest e = grind arith
first_outside-append width height (w ∷ path) rest e =
    let p = first_inside width height w path e in
    cond-true (is_inside width height w) _ _ ((is_inside_decides width height w).1 p.0)
    ∙ ap (option_map (λ n. n + 1)) (first_outside-append w.width w.height path rest p.1)
    ∙ one_more (first_outside (path_width w.width path) (path_height w.height path) rest)
  where
    one_more : (o : Option ℕ) → option_map (λ n. n + 1) (option_map (λ n. n + length path) o) ≡ option_map (λ n. n + suc (length path)) o
    one_more None = refl
    one_more (Some n) = let e : n + length path + 1 ≡ n + suc (length path) = omega arith in ap Some e
