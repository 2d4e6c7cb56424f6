-- A path of windows on the way to its end: the cells and the shape that are left, and the number of windows before them.
use Rattle.std.proofs.Common.{◌≡◌, ℕ, ◌<◌, ◌+◌, ◌≤◌, true, cond, List, length, drop, get_or, refl, sym, ap, ◌∙◌, arith, Option, Some, None}
use Rattle.std.proofs.lemmas.List.{drop_more}
use Rattle.std.specs.Option.{option_map}
use Rattle.image_model.specs.Layout.{Reaches}
use Rattle.image_model.specs.Windows as model
use Rattle.image_model.specs.Windows.{is_inside, first_outside, path_width, path_height, path_stretch, padded_stretch, stretch_within}
use Rattle.image_model.proofs.Windows.{is_inside_decides, padded_has}
use Rattle.image_shape.specs.declared.window.Window.{Window}
use Rattle.imgref.specs.Window.{as_window, as_path}

-- after n windows of a path, all inside, so many cells from a cell on and a size are left: the rest of the path leads on from there
pub record IsOnWay (stride count width height : ℕ) (path : List Window) (n : ℕ) (s : model.Stretch) (w h : ℕ) : Type 0 where
  pub cells : path_stretch stride (record { start = 0; len = count }) (as_path path) ≡ path_stretch stride s (as_path (drop n path))
  pub across : path_width width (as_path path) ≡ path_width w (as_path (drop n path))
  pub down : path_height height (as_path path) ≡ path_height h (as_path (drop n path))
  pub counts : first_outside width height (as_path path) ≡ option_map (λ k. k + n) (first_outside w h (as_path (drop n path)))
  pub inside : s.start + s.len ≤ count
  pub fits : Reaches s.len w h stride

counts_one : (n : ℕ) (o : Option ℕ) → option_map (λ k. k + n) (option_map (λ k. k + 1) o) ≡ option_map (λ k. k + (n + 1)) o
counts_one n None = refl
counts_one n (Some k) = let e : k + 1 + n ≡ k + (n + 1) = omega arith in ap Some e

module _ (stride count width height : ℕ) (path : List Window) (n : ℕ) (s : model.Stretch) (w h : ℕ) (way : IsOnWay stride count width height path n s w h) (d : Window) (more : n < length path) where
  abbrev next_one : model.Window
  next_one = as_window (get_or path n d)

  abbrev rest : List model.Window
  rest = as_path (drop (n + 1) path)

  -- a window that is inside leaves its own cells
  pub goes_on : (t : model.Stretch) (w' h' : ℕ) → w ≤ stride → is_inside w h next_one ≡ true → t ≡ stretch_within s (padded_stretch s.len stride next_one) → w' ≡ next_one.width → h' ≡ next_one.height
      → IsOnWay stride count width height path (n + 1) t w' h'
  goes_on t w' h' wide inn is wide' high' =
      let inside = (is_inside_decides w h next_one).0 inn in
      let has = padded_has s.len stride w h next_one wide way.fits inside in
      let split = drop_more path n d more in
      record {
        cells = way.cells ∙ ap (λ ws. path_stretch stride s (as_path ws)) split ∙ ap (λ r. path_stretch stride r rest) (sym is);
        across = way.across ∙ ap (λ ws. path_width w (as_path ws)) split ∙ ap (λ k. path_width k rest) (sym wide');
        down = way.down ∙ ap (λ ws. path_height h (as_path ws)) split ∙ ap (λ k. path_height k rest) (sym high');
        counts =
            way.counts
            ∙ ap (λ ws. option_map (λ k. k + n) (first_outside w h (as_path ws))) split
            ∙ ap (λ b. option_map (λ k. k + n) (cond b (option_map (λ k. k + 1) (first_outside next_one.width next_one.height rest)) (Some 0))) inn
            ∙ counts_one n (first_outside next_one.width next_one.height rest)
            ∙ (λ i. option_map (λ k. k + (n + 1)) (first_outside (sym wide' i) (sym high' i) rest));
        inside = omega (arith, has.within, way.inside, ap (λ (r : model.Stretch). r.start) is, ap (λ (r : model.Stretch). r.len) is);
        fits = (λ column line. rw (ap (λ (r : model.Stretch). r.len) is, wide', high') (has.reaches (omega (arith, column, wide')) (omega (arith, line, high'))));
      }
