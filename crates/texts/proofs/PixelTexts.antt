-- The texts of pixels, as the table has them: four bytes each, of which the first two, three or four are a space and the number.
use Rattle.std.proofs.Common.{◌≡◌, ℕ, zero, suc, ◌+◌, ◌*◌, ◌/◌, ◌%◌, ◌^◌, ◌<◌, ◌≤◌, cond, ltb, List, [], ◌∷◌, ◌++◌, ◌-◌, length, take, drop, take-take, length-take-le, refl, ap, ◌∙◌, arith}
use Rattle.std.specs.Fmt.{decimal}
use mir.Val.{bool_byte}
use Rattle.std.proofs.lemmas.List.{take_at, take-append-le}
use Rattle.std.proofs.lemmas.Simd.{put_chunk_is}
use Rattle.std.specs.Simd.Lanes.{put_chunk}
use Rattle.std.proofs.Math.Seq.{drop-append-add, take-append-add}
use Rattle.std.proofs.lemmas.Bool.Decides.{nat_tests}
use Rattle.texts.proofs.Decimals.{one_digit, two_digits, three_digits}
use Rattle.texts.specs.declared.writing.TheConstants.{PIXEL_TEXTS}

-- a space and the text of a pixel, in four bytes
abbrev padded : ℕ → List ℕ
padded p = 32 ∷ cond (ltb 99 p) ((48 + p / 10 / 10 % 10) ∷ (48 + p / 10 % 10) ∷ (48 + p % 10) ∷ []) (cond (ltb 9 p) ((48 + p / 10 % 10) ∷ (48 + p % 10) ∷ 32 ∷ []) ((48 + p % 10) ∷ 32 ∷ 32 ∷ []))

-- how many of the bytes count
abbrev size : ℕ → ℕ
size p = 2 + bool_byte (ltb 9 p) + bool_byte (ltb 99 p)

-- the texts of n pixels from p on
abbrev padded_from : ℕ → ℕ → List ℕ
padded_from p zero = []
padded_from p (suc n) = padded p ++ padded_from (suc p) n

table_is : PIXEL_TEXTS ≡ padded_from 0 256
table_is = refl

after : (xs ys : List ℕ) (m n : ℕ) → length xs ≡ m → drop (m + n) (xs ++ ys) ≡ drop n ys
after xs ys m n long = rw (← long) (drop-append-add xs ys n)

length_padded : (p : ℕ) → length (padded p) ≡ 4
length_padded p = grind (arith, nat_tests)

-- the text of pixel p + k, among those of n pixels from p on
text_at : (k n p : ℕ) → k < n → take 4 (drop (k * 4) (padded_from p n)) ≡ padded (p + k)
text_at k zero p few = absurd (omega arith)
text_at zero (suc n) p few =
    let e : p + 0 ≡ p = omega arith in
    rw e (take_at (padded p) (padded_from (suc p) n) 4 (length_padded p))
text_at (suc k) (suc n) p few =
    let e : suc p + k ≡ p + suc k = omega arith in
    let f : suc k * 4 ≡ 4 + k * 4 = omega arith in
    let g : drop (4 + k * 4) (padded p ++ padded_from (suc p) n) ≡ drop (k * 4) (padded_from (suc p) n) = after (padded p) (padded_from (suc p) n) 4 (k * 4) (length_padded p) in
    rw (f, g, text_at k n (suc p) (omega arith), e) refl

zero_first : (p : ℕ) → 0 + p ≡ p
zero_first p = omega arith

table_at : (p : ℕ) → p < 2 ^ 8 → take 4 (take (1024 - p * 4) (drop (p * 4) PIXEL_TEXTS)) ≡ padded p
table_at p small = take-take 4 (1024 - p * 4) (drop (p * 4) PIXEL_TEXTS) (omega arith) ∙ ap (λ l. take 4 (drop (p * 4) l)) table_is ∙ text_at p 256 0 (omega arith) ∙ ap padded (zero_first p)

text_padded : (p : ℕ) → p < 2 ^ 8 → take (size p) (padded p) ≡ 32 ∷ decimal p
text_padded p small = grind (arith, nat_tests, one_digit, two_digits, three_digits)

-- the bytes of the table that a pixel is written from
pub pixel_text_is : (p : ℕ) → p < 2 ^ 8 → take (size p) (take 4 (take (1024 - p * 4) (drop (p * 4) PIXEL_TEXTS))) ≡ 32 ∷ decimal p
pixel_text_is p small = ap (take (size p)) (table_at p small) ∙ text_padded p small

-- after a write at a place, the bytes up to one within what was written
pub front_put : (at n : ℕ) (xs ys front : List ℕ) → take n ys ≡ front → n ≤ length ys → at + length ys ≤ length xs → take (at + n) (put_chunk at xs ys) ≡ take at xs ++ front
front_put at n xs ys front is few room =
    let long : length (take at xs) ≡ at = length-take-le at xs (omega arith) in
    let rest = drop (length ys) (drop at xs) in
    let whole : put_chunk at xs ys ≡ take at xs ++ (ys ++ rest) = put_chunk_is at xs ys room in
    let e : take (at + n) (take at xs ++ (ys ++ rest)) ≡ take at xs ++ take n (ys ++ rest) = rw long at (take-append-add (take at xs) (ys ++ rest) n) in
    rw (whole, e, take-append-le n ys rest few, is) refl
