-- Rows of pixels of several cells.
use Rattle.std.proofs.Common.{◌≡◌, ℕ, suc, ◌+◌, ◌*◌, ◌/◌, ◌<◌, ap, ◌∙◌, arith}
use Rattle.std.proofs.lemmas.Nat.{mul-le}
use Rattle.std.proofs.Math.Nat.{suc-mul, mul-div_cancel}

-- the cells of a pixel lie within those of the row
pub cells_within : (size count x c : ℕ) → x < count → c < size → x * size + c < count * size
cells_within size count x c below here = omega (arith, mul-le (suc x) size count size (omega (arith, below)) (omega arith), suc-mul x size, here)

-- how many pixels a row has
pub pixels_of_row : (size columns width : ℕ) → 0 < size → width ≡ columns * size → width / size ≡ columns
pixels_of_row size columns width some wide = ap (λ n. n / size) wide ∙ mul-div_cancel columns some
