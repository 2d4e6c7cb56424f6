-- Pixels that are read many at once: where digits end, what they denote, and what is left after a pixel.
use Rattle.std.proofs.Common.{◌≡◌, ℕ, zero, suc, ◌+◌, ◌-◌, ◌*◌, ◌/◌, ◌%◌, ◌^◌, ◌<◌, ◌≤◌, ltb, eqb, not, Bool, true, false, cond, List, [], ◌∷◌, map, length, take, drop, get_or, replicate, Some, refl, sym, ap, ◌∙◌, arith, w8, Fits}
use Rattle.std.specs.List.{position_or_len, prefix_len}
use Rattle.std.specs.Simd.Lanes.{zip2, mask_l, top, chunk}
use Rattle.std.proofs.lemmas.Bool.Decides.{nat_tests}
use Rattle.std.proofs.lemmas.List.{length-map, length-drop, take_rest, drop-drop, get_or-drop}
use Rattle.std.proofs.lemmas.Simd.{tops_compared, zip2_splat, zip2_splat_left, map-map, mask_l-mod, length-chunk, trailing_mask_l, run_in_chunk_le, run_in_chunk_fails}
use Rattle.std.proofs.Math.Nat.{pow-succ', div-one, zero-div, div-div-eq-div-mul}
use lib.Count.{count_trailing_zeros}
use Rattle.texts.specs.Parts.{parts_of}
use Rattle.texts.specs.Reading.{number_of, pixel_of, first_of_parts}
use Rattle.texts.proofs.ShortNumbers.{number_one, number_two, number_three, first_and_others}
use Rattle.texts.specs.Digits.{is_other, IsDigit}
use Rattle.texts.specs.declared.pixels.TheConstants.{WORTHS, LEASTS}

-- the lanes above nine, of bytes from which '0' was taken
pub others_mask : (n : ℕ) (lanes : List ℕ) → length lanes ≡ n → n ≤ 64
    → mask_l (map (top 7) (zip2 (λ a b. cond (ltb a b) 255 0) (replicate n 9) (zip2 (λ a b. (a + (256 - b)) % 256) lanes (replicate n 48)))) % 2 ^ 64 ≡ mask_l (map is_other lanes)
others_mask n lanes long few =
    let from : List ℕ = map (λ b. (b + 208) % 256) lanes in
    let less : zip2 (λ a b. (a + (256 - b)) % 256) lanes (replicate n 48) ≡ from = zip2_splat (λ a b. (a + (256 - b)) % 256) lanes n 48 long in
    let above : zip2 ltb (replicate n 9) from ≡ map (λ y. ltb 9 y) from = zip2_splat_left ltb 9 n from (length-map lanes (λ b. (b + 208) % 256) ∙ long) in
    ap (λ l. mask_l (map (top 7) (zip2 (λ a b. cond (ltb a b) 255 0) (replicate n 9) l)) % 2 ^ 64) less
    ∙ ap (λ l. mask_l l % 2 ^ 64) (tops_compared w8 ltb (replicate n 9) from ∙ above ∙ map-map (λ y. ltb 9 y) (λ b. (b + 208) % 256) lanes)
    ∙ mask_l-mod (map is_other lanes) 64 (omega (arith, length-map lanes is_other))

pub digit_is : (b : ℕ) → b < 256 → is_other b ≡ false → IsDigit b
digit_is b small is = record { low = grind (arith, nat_tests); high = grind (arith, nat_tests) }

-- what so many digits are worth, and the least that they may be
abbrev pub worth : ℕ → List ℕ → ℕ
worth d xs = get_or xs 0 0 % 16 * get_or (get_or WORTHS d []) 0 0 + get_or xs 1 0 % 16 * get_or (get_or WORTHS d []) 1 0 + get_or xs 2 0 % 16 * get_or (get_or WORTHS d []) 2 0

pixel_is : (field : List ℕ) (n m : ℕ) → number_of field ≡ Some n → n ≡ m → m ≤ 255 → pixel_of field ≡ Some m
unfolding pixel_of
pixel_is field n m is same small = rw (is, same) (grind (arith, nat_tests))

pub short_pixels : (d : ℕ) (xs : List ℕ) → d ≤ 3 → 3 ≤ length xs → ((k : ℕ) → k < d → IsDigit (get_or xs k 0)) → get_or LEASTS d 0 ≤ worth d xs → worth d xs ≤ 255 → pixel_of (take d xs) ≡ Some (worth d xs)
short_pixels zero xs few long digits least most = absurd (omega arith)
short_pixels (suc zero) xs few long digits least most =
    let a = digits 0 (omega arith) in
    pixel_is (take 1 xs) _ (worth 1 xs) (number_one xs (omega arith) a.low a.high) (omega arith) most
short_pixels (suc (suc zero)) xs few long digits least most =
    let a = digits 0 (omega arith) in
    let b = digits 1 (omega arith) in
    pixel_is (take 2 xs) _ (worth 2 xs) (number_two xs (omega arith) (omega arith) a.high b.low b.high) (omega arith) most
short_pixels (suc (suc (suc zero))) xs few long digits least most =
    let a = digits 0 (omega arith) in
    let b = digits 1 (omega arith) in
    let e = digits 2 (omega arith) in
    pixel_is (take 3 xs) _ (worth 3 xs) (number_three xs (omega arith) (omega arith) a.high b.low b.high e.low e.high) (omega arith) most
short_pixels (suc (suc (suc (suc d)))) xs few long digits least most = absurd (omega arith)

-- n digits before a separator
pub digits_before : (n : ℕ) (xs : List ℕ) (separator : ℕ) → separator < 48 → n < length xs → ((k : ℕ) → k < n → IsDigit (get_or xs k 0)) → get_or xs n 0 ≡ separator → position_or_len (λ b. eqb b separator) xs ≡ n
digits_before n [] separator low long digits end = absurd (omega arith)
digits_before zero (x ∷ xs) separator low long digits end = grind (arith, nat_tests)
digits_before (suc n) (x ∷ xs) separator low long digits end =
    let here = digits 0 (omega arith) in
    let later = digits_before n xs separator low (omega arith) (λ k few. digits (suc k) (omega arith)) end in
    grind (arith, nat_tests)

-- the part before the separator is read, and the others are left
pub first_pixel : (separator at n v : ℕ) (xs : List ℕ) → separator < 48 → at + n < length xs → ((k : ℕ) → k < n → IsDigit (get_or (drop at xs) k 0)) → get_or xs (at + n) 0 ≡ separator → pixel_of (take n (drop at xs)) ≡ Some v
    → first_of_parts pixel_of (parts_of separator (drop at xs)) ≡ Some (v, parts_of separator (drop (at + (n + 1)) xs))
first_pixel separator at n v xs low long digits end is =
    let ys = drop at xs in
    let room : n < length ys = omega (arith, length-drop at xs) in
    let found = digits_before n ys separator low room digits (get_or-drop at xs n 0 ∙ end) in
    let others : take (length ys - (n + 1)) (drop (n + 1) ys) ≡ drop (at + (n + 1)) xs = take_rest ys (n + 1) ∙ drop-drop (n + 1) at xs in
    rw others at (first_and_others pixel_of separator ys n v found is room)

half : (b : Bool) (m : ℕ) → (cond b 1 0 + 2 * m) / 2 ≡ m
half true m = omega arith
half false m = omega arith

halves : (n x : ℕ) → x / 2 ^ suc n ≡ x / 2 / 2 ^ n
halves n x = ap (λ k. x / k) (pow-succ' 2 n) ∙ sym (div-div-eq-div-mul x 2 (2 ^ n))

-- the mask of the lanes after the first n and one more
mask_after : (p : ℕ → Bool) (n : ℕ) (xs : List ℕ) → mask_l (map p xs) / 2 ^ n / 2 ≡ mask_l (map p (drop (suc n) xs))
mask_after p zero [] = refl
mask_after p zero (x ∷ xs) = ap (λ k. k / 2) (div-one (cond (p x) 1 0 + 2 * mask_l (map p xs))) ∙ half (p x) (mask_l (map p xs))
mask_after p (suc n) [] = ap (λ k. k / 2) (zero-div (2 ^ suc n))
mask_after p (suc n) (x ∷ xs) =
    ap (λ k. k / 2) (halves n (cond (p x) 1 0 + 2 * mask_l (map p xs)) ∙ ap (λ k. k / 2 ^ n) (half (p x) (mask_l (map p xs)))) ∙ mask_after p n xs

take_nothing : (n : ℕ) → take {A = ℕ} n [] ≡ []
take_nothing zero = refl
take_nothing (suc n) = refl

drop_take : (k m : ℕ) (ys : List ℕ) → drop k (take m ys) ≡ take (m - k) (drop k ys)
drop_take zero m ys = let e : m ≡ m - 0 = omega arith in ap (λ j. take j ys) e
drop_take (suc k) zero ys = let e : 0 ≡ 0 - suc k = omega arith in ap (λ j. take j (drop (suc k) ys)) e
drop_take (suc k) (suc m) [] = sym (take_nothing (suc m - suc k))
drop_take (suc k) (suc m) (y ∷ ys) = let e : m - k ≡ suc m - suc k = omega arith in drop_take k m ys ∙ ap (λ j. take j (drop k ys)) e

-- the mask of the lanes from a later one on
pub later_mask : (lanes : ℕ) (p : ℕ → Bool) (at n ends : ℕ) (xs : List ℕ) → ends ≡ mask_l (map p (chunk at (lanes - at) xs)) → ends / 2 ^ n / 2 ≡ mask_l (map p (chunk (at + (n + 1)) (lanes - (at + (n + 1))) xs))
later_mask lanes p at n ends xs is =
    let one : suc n ≡ n + 1 = omega arith in
    let left : lanes - at - (n + 1) ≡ lanes - (at + (n + 1)) = omega arith in
    ap (λ e. e / 2 ^ n / 2) is ∙ mask_after p n (chunk at (lanes - at) xs) ∙ ap (λ k. mask_l (map p (drop k (chunk at (lanes - at) xs)))) one
    ∙ ap (λ l. mask_l (map p l)) (drop_take (n + 1) (lanes - at) (drop at xs) ∙ ap (λ l. take (lanes - at - (n + 1)) l) (drop-drop (n + 1) at xs) ∙ ap (λ k. take k (drop (at + (n + 1)) xs)) left)

-- where the next lane is that is no digit
ends_at : (lanes at ends : ℕ) (xs : List ℕ) → lanes ≤ 64 → at ≤ lanes + 1 → lanes + 8 ≤ length xs → 0 < ends → ends ≡ mask_l (map is_other (chunk at (lanes - at) xs)) → count_trailing_zeros 64 ends ≡ prefix_len (λ b. not (is_other b)) (chunk at (lanes - at) xs)
ends_at lanes at ends xs fit near long some is =
    let short = length-chunk at (lanes - at) xs (omega arith) in
    ap (count_trailing_zeros 64) is ∙ trailing_mask_l is_other 64 (chunk at (lanes - at) xs) (omega arith) (omega arith)

pub end_within : (lanes at ends : ℕ) (xs : List ℕ) → lanes ≤ 64 → at ≤ lanes + 1 → lanes + 8 ≤ length xs → 0 < ends → ends ≡ mask_l (map is_other (chunk at (lanes - at) xs)) → count_trailing_zeros 64 ends ≤ lanes - at
end_within lanes at ends xs fit near long some is = run_in_chunk_le is_other xs at (lanes - at) (count_trailing_zeros 64 ends) 0 (omega arith) (ends_at lanes at ends xs fit near long some is)

-- all bytes before it are digits
pub digits_from : (lanes at ends : ℕ) (xs : List ℕ) → lanes ≤ 64 → at ≤ lanes + 1 → lanes + 8 ≤ length xs → 0 < ends → ends ≡ mask_l (map is_other (chunk at (lanes - at) xs)) → ((k : ℕ) → Fits w8 (get_or xs k 0))
    → (k : ℕ) → k < count_trailing_zeros 64 ends → IsDigit (get_or (drop at xs) k 0)
digits_from lanes at ends xs fit near long some is bytes k few =
    let none = run_in_chunk_fails is_other xs at (lanes - at) (count_trailing_zeros 64 ends) 0 (omega arith) (ends_at lanes at ends xs fit near long some is) (at + k) (omega arith) (omega arith) in
    rw (get_or-drop at xs k 0) (digit_is (get_or xs (at + k) 0) (bytes (at + k)).fits none)
