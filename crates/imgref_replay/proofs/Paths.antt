-- Paths of windows on the way to their end: the one window that those passed so far come to.
use Rattle.std.proofs.Common.{◌≡◌, ℕ, ◌+◌, ◌<◌, ◌≤◌, true, false, cond, Some, None, List, [], ◌∷◌, ◌++◌, length, take, drop, get_or, sym, ap, subst, ◌∙◌, arith}
use Rattle.std.specs.Option.{option_map}
use Rattle.std.proofs.lemmas.List.{take_more, take_all, drop_more, map-append, take-append-drop, length-map, length-take-le}
use Rattle.image_model.specs.Windows as model
use Rattle.image_model.specs.Windows.{IsInside, is_inside, first_outside, path_window, path_width, path_height, path_layout}
use Rattle.image_model.specs.Layout.{Layout, Fits}
use Rattle.image_model.specs.Grid.{grid_of}
use Rattle.image_model.proofs.Paths.{nested, path_inside, path_window-push, first_outside-append, path_has, path_fits, path_grid}
use Rattle.imgref_replay.specs.Path.{IsPathWindow}
use Rattle.image_shape.specs.declared.window.Window.{Window}
use Rattle.imgref.specs.Window.{as_window, as_path}

-- the first n windows of a path are inside, and come to this window
pub record IsAlong (width height : ℕ) (path : List Window) (n : ℕ) (found : Window) : Type 0 where
  pub inside : first_outside width height (as_path (take n path)) ≡ None
  pub comes_to : as_window found ≡ path_window width height (as_path (take n path))
  pub within : IsInside width height (as_window found)

module _ (width height : ℕ) (path : List Window) where
  -- at the end of the path
  pub along_all : (n : ℕ) (found : Window) → length path ≤ n → IsAlong width height path n found
      → (first_outside width height (as_path path) ≡ None) × (as_window found ≡ path_window width height (as_path path))
  along_all n found end along = grind (arith, take_all)

  module _ (n : ℕ) (found d : Window) (more : n < length path) (along : IsAlong width height path n found) where
    abbrev next : model.Window
    next = as_window (get_or path n d)

    -- a window that isn't inside the one so far is the first outside
    pub stops : is_inside found.width found.height next ≡ false → first_outside width height (as_path path) ≡ Some n
    stops outside =
        let passed = as_path (take n path) in
        let rest = as_path (drop (n + 1) path) in
        let cut : as_path path ≡ passed ++ next ∷ rest = sym (ap as_path (take-append-drop n path)) ∙ map-append as_window (take n path) (drop n path) ∙ ap (λ ws. passed ++ as_path ws) (drop_more path n d more) in
        let as_many : length passed ≡ n = length-map (take n path) as_window ∙ length-take-le n path (omega arith) in
        let wide : path_width width passed ≡ found.width = sym (ap (λ w. w.width) along.comes_to) in
        let high : path_height height passed ≡ found.height = sym (ap (λ w. w.height) along.comes_to) in
        ap (first_outside width height) cut
        ∙ first_outside-append width height passed (next ∷ rest) along.inside
        ∙ ap (λ w. option_map (λ k. k + length passed) (first_outside w (path_height height passed) (next ∷ rest))) wide
        ∙ ap (λ h. option_map (λ k. k + length passed) (first_outside found.width h (next ∷ rest))) high
        ∙ ap (λ b. option_map (λ k. k + length passed) (cond b (option_map (λ k. k + 1) (first_outside next.width next.height rest)) (Some 0))) outside
        ∙ (let same : 0 + length passed ≡ n = omega (arith, as_many) in ap Some same)

    -- and one that is leads on
    pub goes_on : (to : Window) → is_inside found.width found.height next ≡ true → as_window to ≡ nested (as_window found) next → IsAlong width height path (n + 1) to
    goes_on to inn is =
        let passed = as_path (take n path) in
        let pushed : as_path (take (n + 1) path) ≡ passed ++ next ∷ [] = ap as_path (take_more path n d more) ∙ map-append as_window (take n path) (get_or path n d ∷ []) in
        let wide : path_width width passed ≡ found.width = sym (ap (λ w. w.width) along.comes_to) in
        let high : path_height height passed ≡ found.height = sym (ap (λ w. w.height) along.comes_to) in
        let none : first_outside width height (as_path (take (n + 1) path)) ≡ None =
        ap (first_outside width height) pushed
        ∙ first_outside-append width height passed (next ∷ []) along.inside
        ∙ ap (λ w. option_map (λ k. k + length passed) (first_outside w (path_height height passed) (next ∷ []))) wide
        ∙ ap (λ h. option_map (λ k. k + length passed) (first_outside found.width h (next ∷ []))) high
        ∙ ap (λ b. option_map (λ k. k + length passed) (cond b None (Some 0))) inn in
        let at : as_window to ≡ path_window width height (as_path (take (n + 1) path)) =
        is
        ∙ ap (λ w. nested w next) along.comes_to
        ∙ sym (path_window-push width height passed next)
        ∙ ap (path_window width height) (sym pushed) in
        record {
          inside = none;
          comes_to = at;
          within = subst (IsInside width height) (sym at) (path_inside width height (as_path (take (n + 1) path)) none);
        }

-- a layout that is the path's is its window
pub path_window_is : {T : Type 0} (l : Layout T) (path : List model.Window) → l.width ≤ l.stride → Fits l → first_outside l.width l.height path ≡ None → (m : Layout T) → m ≡ path_layout l path → IsPathWindow l path m
path_window_is l path wide fits inside m is = record {
  layout = is;
  corner = (path_has l path wide fits inside).begins;
  fits = subst (λ out. Fits out) (sym is) (path_fits l path wide fits inside);
  view = ap grid_of is ∙ path_grid l path wide fits inside;
}
