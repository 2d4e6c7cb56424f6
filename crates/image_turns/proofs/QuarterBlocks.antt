-- Images whose columns are rows: a block that is read, transposed and written, and the part of the source that a window shows.
use Rattle.std.proofs.Common.{◌≡◌, ℕ, ◌+◌, ◌-◌, ◌<◌, ◌≤◌, true, false, refl, ap, sym, ◌∙◌, arith}
use Rattle.image_model.specs.Grid.{Grid, view}
use Rattle.image_model.specs.Turns.{transposed}
use Rattle.image_model.proofs.Grids.{at_place, same_grids}
use Rattle.image_turns.specs.Blocks.{read_over}
use Rattle.image_turns.specs.Quarters.{source_column, source_row, quartered, first_column, first_row, reads_back, writes_back}
use Rattle.image_turns.specs.declared.turning.Crossing.{Crossing}
use Rattle.image_turns.specs.declared.turning.Crossing.TheVariants.{Across, Right, Left}
use Rattle.image_turns.proofs.Quarters.{source_place}

-- ---- one block

-- rows that are read, transposed and written
pub read_transposed : {T : Type 0} (crossing : Crossing) (g : Grid T) → read_over (writes_back crossing) (transposed (read_over (reads_back crossing) g)) ≡ quartered crossing g
unfolding transposed
read_transposed Across g =
    same_grids g.height g.width _ _ (λ x y column line.
    at_place g.height g.width (λ u v. (read_over false g).pixel v u) x y column line ∙ at_place g.width g.height g.pixel y x line column)
read_transposed Right g =
    same_grids g.height g.width _ _ (λ x y column line.
    at_place g.height g.width (λ u v. (read_over true g).pixel v u) x y column line ∙ at_place g.width g.height (λ u v. g.pixel u (g.height - 1 - v)) y x line column)
read_transposed Left g =
    same_grids g.height g.width _ _ (λ x y column line.
    at_place g.height g.width (λ u v. (read_over false g).pixel v u) x (g.width - 1 - y) column (omega (arith, line)) ∙ at_place g.width g.height g.pixel (g.width - 1 - y) x (omega (arith, line)) column)

-- a column and a row of the source, counted from those that a window shows
same_column : (crossing : Crossing) (width top lines x y : ℕ) → top + lines ≤ width → y < lines → first_column crossing width top lines + source_column crossing lines x y ≡ source_column crossing width x (top + y)
same_column Across width top lines x y there line = refl
same_column Right width top lines x y there line = refl
same_column Left width top lines x y there line = omega (arith, there, line)

same_line : (crossing : Crossing) (height left count x y : ℕ) → left + count ≤ height → x < count → first_row crossing height left count + source_row crossing count x y ≡ source_row crossing height (left + x) y
same_line Across height left count x y there column = refl
same_line Right height left count x y there column = omega (arith, there, column)
same_line Left height left count x y there column = refl

-- a window of the image shows the window of the source
module _ {T : Type 0} (crossing : Crossing) (g : Grid T) (left top count lines column line : ℕ) (wide : left + count ≤ g.height) (high : top + lines ≤ g.width)
    (is_column : column ≡ first_column crossing g.width top lines) (is_line : line ≡ first_row crossing g.height left count) where
  pub view_quartered : quartered crossing (view g column line lines count) ≡ view (quartered crossing g) left top count lines
  unfolding view
  view_quartered =
      same_grids count lines _ _ (λ x y in_x in_y.
      let place = source_place crossing lines count x y in_x in_y in
      let u : ℕ = source_column crossing lines x y in
      let v : ℕ = source_row crossing count x y in
      let same_u : column + u ≡ source_column crossing g.width x (top + y) = ap (λ n. n + u) is_column ∙ same_column crossing g.width top lines x y high in_y in
      let same_v : line + v ≡ source_row crossing g.height (left + x) y = ap (λ n. n + v) is_line ∙ same_line crossing g.height left count x y wide in_x in
      at_place lines count (λ m n. g.pixel (column + m) (line + n)) u v place.0 place.1
      ∙ (λ i. g.pixel (same_u i) (same_v i))
      ∙ (λ i. g.pixel (column_alone crossing g.width x (left + x) (top + y) i) (line_alone crossing g.height (left + x) y (top + y) i))
      ∙ sym (at_place g.height g.width (λ m n. g.pixel (source_column crossing g.width m n) (source_row crossing g.height m n)) (left + x) (top + y) (omega (arith, in_x, wide)) (omega (arith, in_y, high))))
    where
      column_alone : (crossing : Crossing) (width u x y : ℕ) → source_column crossing width u y ≡ source_column crossing width x y
      column_alone Across width u x y = refl
      column_alone Right width u x y = refl
      column_alone Left width u x y = refl

      line_alone : (crossing : Crossing) (height x v y : ℕ) → source_row crossing height x v ≡ source_row crossing height x y
      line_alone Across height x v y = refl
      line_alone Right height x v y = refl
      line_alone Left height x v y = refl

-- rows of the image show columns of the source, from its first row to its last
module _ {T : Type 0} (crossing : Crossing) (g : Grid T) (top count lines column height : ℕ) (high : top + lines ≤ g.width) (all : count ≡ g.height) (is_height : height ≡ g.height)
    (is_column : column ≡ first_column crossing g.width top lines) where
  whole_rows : (crossing : Crossing) (height : ℕ) → 0 ≡ first_row crossing height 0 height
  whole_rows Across height = refl
  whole_rows Right height = omega arith
  whole_rows Left height = refl

  pub band_quartered : quartered crossing (view g column 0 lines height) ≡ view (quartered crossing g) 0 top count lines
  band_quartered =
      let same : height ≡ count = is_height ∙ sym all in
      (λ i. quartered crossing (view g column 0 lines (same i)))
      ∙ view_quartered crossing g 0 top count lines column 0 (omega (arith, all)) high is_column (whole_rows crossing g.height ∙ ap (first_row crossing g.height 0) (sym all))
