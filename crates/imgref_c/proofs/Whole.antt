-- Images of which every pixel is written.
use Rattle.std.proofs.Common.{◌≡◌, ℕ, ◌+◌, ◌-◌, ◌*◌, ◌/◌, ◌%◌, ◌<◌, List, Option, refl, sym, subst, ap, ◌∙◌, arith}
use Rattle.image_model.specs.Layout.{Layout, layout, SameOutside}
use Rattle.image_model.specs.Grid.{Grid, grid, grid_of, patch}
use Rattle.image_model.proofs.Grids.{at_place, covers_decides, is_patch}
use Rattle.std.proofs.Math.Nat.{mul-div_cancel_left}
use Rattle.std.proofs.lemmas.Bool.{true≢false}
use Rattle.image_shape.specs.declared.shape.Shape.{Shape}
use Rattle.image_shape.specs.Shape.{shaped, shaped_grid}
use Rattle.image_turns.specs.Oriented.{oriented, oriented_width, oriented_height, source_column, source_row}
use Rattle.image_turns.specs.declared.pixel_turning.Orientation.{Orientation}
use Rattle.image_turns.specs.declared.pixel_turning.Orientation.TheVariants.{Transposed, Right, Half, Left}
use Rattle.imgref_c.specs.Calls.{Writes}

-- a patch of the whole size is all that is left
pub patched_whole : {T : Type 0} (l : Layout T) (h : Grid T) (f : ℕ → ℕ → Option T) → h ≡ grid l.width l.height f → h ≡ patch (grid_of l) 0 0 h
unfolding grid_of
patched_whole l h f is =
    is
    ∙ is_patch (grid_of l) 0 0 (grid l.width l.height f) f
    (λ x y column line _.
    let same_x : x ≡ x - 0 = omega arith in
    let same_y : y ≡ y - 0 = omega arith in
    (λ i. f (same_x i) (same_y i)) ∙ sym (at_place l.width l.height f (x - 0) (y - 0) (omega (arith, column)) (omega (arith, line))))
    (λ x y column line beside. absurd (true≢false (sym ((covers_decides 0 0 l.width l.height x y).1 (omega arith, omega arith, omega (arith, column), omega (arith, line))) ∙ beside)))
    ∙ ap (patch (grid_of l) 0 0) (sym is)

-- the cells of a shape of these numbers
pub shaped_as : {T : Type 0} (cells : List T) (s : Shape) {width height stride : ℕ} → s.width ≡ width → s.height ≡ height → s.stride ≡ stride → shaped cells s ≡ layout cells width height stride
shaped_as cells s wide high far = λ i. layout cells (wide i) (high i) (far i)

-- an image that shows a grid of its size, at the same padding
module _ {T : Type 0} (old new : List T) (s : Shape) {width height stride : ℕ} (wide : s.width ≡ width) (high : s.height ≡ height) (far : s.stride ≡ stride) where
  pub all_written : (h : Grid T) (f : ℕ → ℕ → Option T) → h ≡ grid width height f → shaped_grid new s ≡ h → SameOutside (shaped old s) (shaped new s) → Writes 0 width height stride old new 0 0 h
  all_written h f is shown stays = record {
    shows = λ _. ap (λ (l : Layout T). grid_of l) (sym (shaped_as new s wide high far)) ∙ shown ∙ patched_whole (layout old width height stride) h f is;
    outside = λ _. subst (λ l. SameOutside l (layout new width height stride)) (shaped_as old s wide high far) (subst (SameOutside (shaped old s)) (shaped_as new s wide high far) stays);
    unchanged = λ refused. absurd (omega (arith, refused));
  }

  -- the same where they are the pixels of another image, of n cells each, at other places
  pub oriented_written : (n : ℕ) (o : Orientation) (from : Layout T) (columns : ℕ) → 0 < n → from.width ≡ n * columns → oriented_width o columns from.height * n ≡ width → oriented_height o columns from.height ≡ height
      → shaped_grid new s ≡ oriented n o (grid_of from) → SameOutside (shaped old s) (shaped new s) → Writes 0 width height stride old new 0 0 (oriented n o (grid_of from))
  unfolding grid_of
  oriented_written n o from columns some whole w h shown stays =
      let same : from.width / n ≡ columns = ap (λ k. k / n) whole ∙ mul-div_cancel_left columns some in
      let w' : oriented_width o (from.width / n) from.height * n ≡ width = ap (λ k. oriented_width o k from.height * n) same ∙ w in
      let h' : oriented_height o (from.width / n) from.height ≡ height = ap (λ k. oriented_height o k from.height) same ∙ h in
      all_written (oriented n o (grid_of from)) _
      (λ i. grid (w' i) (h' i) (λ x y. (grid_of from).pixel (source_column o (from.width / n) (x / n) y * n + x % n) (source_row o from.height (x / n) y)))
      shown stays

-- an image that keeps its width keeps its height
pub height_stays : (o : Orientation) (columns rows : ℕ) → oriented_width o columns rows ≡ columns → oriented_height o columns rows ≡ rows
height_stays Transposed columns rows same = sym same
height_stays Right columns rows same = sym same
height_stays Half columns rows same = refl
height_stays Left columns rows same = sym same
