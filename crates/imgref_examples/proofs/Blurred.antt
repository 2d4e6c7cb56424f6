-- The mean of nine pixels, and images that become blurred place by place.
use Rattle.std.proofs.Common.{◌≡◌, ℕ, ◌+◌, ◌-◌, ◌<◌, ◌≤◌, ◌/◌, inl, inr, List, [], ◌++◌, true, Option, Some, refl, sym, ap, ◌∙◌, arith, ⊎_elim, sum, if◌then◌else◌}
use Rattle.std.specs.List.{cons_option}
use Rattle.std.proofs.lemmas.List.{append-nil}
use Rattle.std.proofs.lemmas.List.Sums.{sum_by-append}
use Rattle.std.proofs.lemmas.Bool.{cond-true, cond-false, cases_Bool}
use Rattle.std.proofs.lemmas.Bool.Decides.{nat_tests}
use Rattle.image_model.specs.Layout.{Layout, pixel}
use Rattle.image_model.specs.Grid.{Grid, grid_of, covers, patch, uniform, view}
use Rattle.image_model.specs.Rows.{grid_pixels}
use Rattle.image_model.proofs.Grids.{covers_decides, at_place, pixel_at}
use Rattle.image_model.proofs.Places.{outside_refl, outside_trans}
use Rattle.imgref_examples.specs.Blur.{sum_of_three, mean_of_nine, blurred}
use Rattle.image_model.specs.Tables.{is_before, table_upto}
use Rattle.image_model.proofs.Sweeps.{same_upto, table_none, table_all, table_again, table_one}

-- what a blurred image has at a place
abbrev now : Grid ℕ → Layout ℕ → ℕ → ℕ → Option ℕ
now src l x y = if covers 1 1 (l.width - 2) (l.height - 2) x y then Some (mean_of_nine src x y) else (grid_of l).pixel x y

-- three pixels side by side
pub three_pixels : (l : Layout ℕ) (x y p q r : ℕ) → x + 2 < l.width → y < l.height
    → pixel l x y ≡ Some p → pixel l (x + 1) y ≡ Some q → pixel l (x + 2) y ≡ Some r → sum_of_three (grid_of l) x y ≡ p + q + r
unfolding view
three_pixels l x y p q r column line first second third = grind (arith, pixel_at)

-- the pixels of three columns of a row
abbrev across : Grid ℕ → ℕ → ℕ → List ℕ
across g x y = cons_option (g.pixel (x + 0) y) (cons_option (g.pixel (x + 1) y) (cons_option (g.pixel (x + 2) y) []))

sum_across : (g : Grid ℕ) (x y n : ℕ) → y + 0 ≡ n → sum (across g x n) ≡ sum_of_three g x y
unfolding view
sum_across g x y n e = ap sum (sym (append-nil (across g x n))) ∙ ap (λ m. sum (across g x m ++ [])) (sym e)

-- the sum of nine pixels by their rows
nine_by_rows : (g : Grid ℕ) (x y : ℕ) → sum (grid_pixels (view g x y 3 3)) ≡ sum_of_three g x y + sum_of_three g x (y + 1) + sum_of_three g x (y + 2)
unfolding view
nine_by_rows g x y = grind (arith, sum_across, append-nil, sum_by-append)

-- the mean of a pixel and its neighbours by the rows about it
pub mean_by_rows : (g : Grid ℕ) (x y : ℕ) → 0 < y → mean_of_nine g x y ≡ (sum_of_three g (x - 1) (y - 1) + sum_of_three g (x - 1) y + sum_of_three g (x - 1) (y + 1)) / 9
mean_by_rows g x y line = grind (arith, nine_by_rows)

-- a blur that goes on over the edges alone changes nothing
same_blur : (x y m n : ℕ) (src : Grid ℕ) (l : Layout ℕ)
    → ((u v : ℕ) → 1 ≤ u → 1 ≤ v → u < 1 + (l.width - 2) → v < 1 + (l.height - 2) → is_before x y u v ≡ is_before m n u v)
    → table_upto (blurred src (grid_of l)).pixel x y (grid_of l) ≡ table_upto (blurred src (grid_of l)).pixel m n (grid_of l)
unfolding grid_of blurred
same_blur x y m n src l interior = same_upto (blurred src (grid_of l)).pixel x y m n l (λ u v column line.
    ⊎_elim
    (λ hit. let c = (covers_decides 1 1 (l.width - 2) (l.height - 2) u v).0 hit in inl (interior u v c.0 c.1 c.2 c.3))
    (λ miss. inr (at_place l.width l.height (now src l) u v column line ∙ cond-false (covers 1 1 (l.width - 2) (l.height - 2) u v) _ _ miss))
    (cases_Bool (covers 1 1 (l.width - 2) (l.height - 2) u v)))

-- the first row is an edge
pub none_blurred : (src : Grid ℕ) (l : Layout ℕ) → grid_of l ≡ table_upto (blurred src (grid_of l)).pixel 0 1 (grid_of l)
none_blurred src l = table_none (blurred src (grid_of l)).pixel l ∙ same_blur 0 0 0 1 src l (λ u v left above right below. grind (arith, nat_tests))

-- the first column is
pub row_begins : (y : ℕ) (src : Grid ℕ) (l : Layout ℕ) → table_upto (blurred src (grid_of l)).pixel 0 y (grid_of l) ≡ table_upto (blurred src (grid_of l)).pixel 1 y (grid_of l)
row_begins y src l = same_blur 0 y 1 y src l (λ u v left above right below. grind (arith, nat_tests))

-- the last column is
pub row_ends : (x y : ℕ) (src : Grid ℕ) (l : Layout ℕ) → l.width - 1 ≤ x → table_upto (blurred src (grid_of l)).pixel x y (grid_of l) ≡ table_upto (blurred src (grid_of l)).pixel 0 (y + 1) (grid_of l)
row_ends x y src l wide = same_blur x y 0 (y + 1) src l (λ u v left above right below. grind (arith, nat_tests))

-- the last row is
pub all_blurred : (y : ℕ) (src : Grid ℕ) (l : Layout ℕ) → l.height - 1 ≤ y → table_upto (blurred src (grid_of l)).pixel 0 y (grid_of l) ≡ blurred src (grid_of l)
unfolding grid_of blurred
all_blurred y src l high = same_blur 0 y 0 l.height src l (λ u v left above right below. grind (arith, nat_tests)) ∙ table_all (blurred src (grid_of l)).pixel 0 l.height l.width l.height l (omega arith) refl refl ∙ table_again l.width l.height (now src l)

-- one interior place more has its mean
pub one_blurred : (x y : ℕ) (src : Grid ℕ) (l k : Layout ℕ) → grid_of k ≡ table_upto (blurred src (grid_of l)).pixel x y (grid_of l) → k.width ≡ l.width → k.height ≡ l.height
    → 1 ≤ x → 1 ≤ y → x + 1 < l.width → y + 1 < l.height → patch (grid_of k) x y (uniform 1 1 (mean_of_nine src x y)) ≡ table_upto (blurred src (grid_of l)).pixel (x + 1) y (grid_of l)
unfolding grid_of blurred
one_blurred x y src l k e wide high left above right below =
    table_one (blurred src (grid_of l)).pixel x y l k e wide high (omega (arith, right)) (omega (arith, below)) (mean_of_nine src x y) there
  where
    hit : covers 1 1 (l.width - 2) (l.height - 2) x y ≡ true
    hit = (covers_decides 1 1 (l.width - 2) (l.height - 2) x y).1 (left, above, omega (arith, right), omega (arith, below))

    there : (blurred src (grid_of l)).pixel x y ≡ Some (mean_of_nine src x y)
    there = at_place l.width l.height (now src l) x y (omega (arith, right)) (omega (arith, below)) ∙ cond-true (covers 1 1 (l.width - 2) (l.height - 2) x y) _ _ hit

-- what the proof of a blur goes by
pub ruleset blurs = (outside_refl, outside_trans, none_blurred, row_begins, one_blurred, row_ends, all_blurred)
