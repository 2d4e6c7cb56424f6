-- Samples of one cell or of two: where they begin, their numbers and those of their cells.
use Rattle.std.proofs.Common.{◌≡◌, ℕ, ◌+◌, ◌-◌, ◌*◌, ◌/◌, ◌%◌, ◌==◌, ◌<◌, ◌≤◌, ◌^◌, min, Bool, true, false, Option, refl, ap, ap₂, ◌∙◌, arith}
use Rattle.std.specs.Option.{option_map_or}
use Rattle.std.proofs.Math.Nat.{mul_left_comm}
use Rattle.image_means.specs.Means.{sample_cells, sample_start, sample_number, byte_of, cell_number, AreBytes}
use Rattle.image_shape.specs.declared.samples.SampleBytes.{SampleBytes}
use Rattle.image_shape.specs.declared.samples.SampleBytes.TheVariants.{One, LowFirst, HighFirst}

-- ---- where they begin

-- an even number of times
even_times : (i size : ℕ) → size % 2 ≡ 0 → i * size % 2 ≡ 0
even_times i size even =
    let twice : i * size ≡ 2 * (i * (size / 2)) = ap (λ n. i * n) (let e : size ≡ 2 * (size / 2) = omega (arith, even) in e) ∙ mul_left_comm i 2 (size / 2) in
    omega (arith, twice)

-- pixels that have whole samples
pub whole_pixels : (bytes : SampleBytes) (i size : ℕ) → size % sample_cells bytes ≡ 0 → i * size % sample_cells bytes ≡ 0
whole_pixels One i size whole = omega arith
whole_pixels LowFirst i size whole = even_times i size whole
whole_pixels HighFirst i size whole = even_times i size whole

-- the cells of a tile, which a row's end may cut
pub whole_tile : (bytes : SampleBytes) (tile size width x : ℕ) → size % sample_cells bytes ≡ 0 → width % sample_cells bytes ≡ 0 → x % sample_cells bytes ≡ 0
    → min (tile * size) (width - x) % sample_cells bytes ≡ 0
whole_tile One tile size width x pixels row from = omega arith
whole_tile LowFirst tile size width x pixels row from = omega (arith, even_times tile size pixels, row, from)
whole_tile HighFirst tile size width x pixels row from = omega (arith, even_times tile size pixels, row, from)

-- a sample's second cell is within the cells too
pub second_within : (bytes : SampleBytes) (x width : ℕ) → sample_cells bytes ≡ 2 → x % sample_cells bytes ≡ 0 → width % sample_cells bytes ≡ 0 → x < width → x + 1 < width
second_within One x width two from whole below = absurd (omega (arith, two))
second_within LowFirst x width two from whole below = omega (arith, from, whole, below)
second_within HighFirst x width two from whole below = omega (arith, from, whole, below)

-- so are all of its cells
pub sample_within : (bytes : SampleBytes) (x width : ℕ) → x % sample_cells bytes ≡ 0 → width % sample_cells bytes ≡ 0 → x < width → x + sample_cells bytes ≤ width
sample_within One x width from whole below = omega (arith, below)
sample_within LowFirst x width from whole below = omega (arith, from, whole, below)
sample_within HighFirst x width from whole below = omega (arith, from, whole, below)

pub sum_whole : (bytes : SampleBytes) (m n : ℕ) → m % sample_cells bytes ≡ 0 → n % sample_cells bytes ≡ 0 → (m + n) % sample_cells bytes ≡ 0
sum_whole One m n left right = omega arith
sum_whole LowFirst m n left right = omega (arith, left, right)
sum_whole HighFirst m n left right = omega (arith, left, right)

-- it begins at its first cell
pub starts_here : (bytes : SampleBytes) (x : ℕ) → x % sample_cells bytes ≡ 0 → sample_start bytes x ≡ x
starts_here One x whole = refl
starts_here LowFirst x whole = omega (arith, whole)
starts_here HighFirst x whole = omega (arith, whole)

-- both cells have the same beginning
pub same_start : (bytes : SampleBytes) (x : ℕ) → 0 < (x + 1) % sample_cells bytes → sample_start bytes (x + 1) ≡ sample_start bytes x
same_start One x rest = absurd (omega (arith, rest))
same_start LowFirst x rest = omega (arith, rest)
same_start HighFirst x rest = omega (arith, rest)

pub start_whole : (bytes : SampleBytes) (x : ℕ) → sample_start bytes x % sample_cells bytes ≡ 0
start_whole One x = omega arith
start_whole LowFirst x = omega arith
start_whole HighFirst x = omega arith

pub start_within : (bytes : SampleBytes) (x : ℕ) → sample_start bytes x ≤ x
start_within One x = omega arith
start_within LowFirst x = omega arith
start_within HighFirst x = omega arith

-- ---- their numbers

-- samples of the same cells have one number
pub sample_same : {T : Type 0} (bytes : SampleBytes) (number : T → ℕ) (a b p q : Option T) → a ≡ p → (sample_cells bytes ≡ 2 → b ≡ q)
    → sample_number bytes (option_map_or number a 0) (option_map_or number b 0) ≡ sample_number bytes (option_map_or number p 0) (option_map_or number q 0)
sample_same One number a b p q first second = ap (λ o. option_map_or number o 0) first
sample_same LowFirst number a b p q first second = ap₂ (λ o r. option_map_or number o 0 + 256 * option_map_or number r 0) first (second refl)
sample_same HighFirst number a b p q first second = ap₂ (λ o r. 256 * option_map_or number o 0 + option_map_or number r 0) first (second refl)

-- bytes can be those of each
pub of_bytes : (bytes : SampleBytes) → AreBytes bytes 255
of_bytes One = tt
of_bytes LowFirst = refl
of_bytes HighFirst = refl

-- none has more than 16 bits
pub sample_short : (bytes : SampleBytes) (greatest : ℕ) → AreBytes bytes greatest → greatest < 2 ^ 16 → sample_number bytes greatest greatest < 2 ^ 16
sample_short One greatest kind short = short
sample_short LowFirst greatest kind short = omega (arith, kind)
sample_short HighFirst greatest kind short = omega (arith, kind)

byte_within : (low : Bool) (n : ℕ) → n < 2 ^ 16 → byte_of low n ≤ 255
byte_within true n short = omega arith
byte_within false n short = omega (arith, short)

-- its cells have numbers of cells
pub cell_within : (bytes : SampleBytes) (greatest x n : ℕ) → AreBytes bytes greatest → n ≤ sample_number bytes greatest greatest → cell_number bytes x n ≤ greatest
cell_within One greatest x n kind within = within
cell_within LowFirst greatest x n kind within = omega (arith, kind, byte_within (x % 2 == 0) n (omega (arith, kind, within)))
cell_within HighFirst greatest x n kind within = omega (arith, kind, byte_within (x % 2 == 1) n (omega (arith, kind, within)))
