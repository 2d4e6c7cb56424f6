-- Pixels of a row that are blurred one after the other: the sums of the next boxes, what their means need, and one sample more that is put.
use Rattle.std.proofs.Common.{◌≡◌, ℕ, ◌+◌, ◌-◌, ◌*◌, ◌/◌, ◌^◌, ◌<◌, ◌≤◌, length, List, Some, sym, ap, ap₂, subst, ◌∙◌, arith, min, inl, inr, slice_set}
use Rattle.std.proofs.lemmas.Bool.{cases_lt}
use Rattle.std.proofs.Math.Nat.{mul_assoc, add-mul, mul-le-mul_right}
use Rattle.std.proofs.lemmas.List.{get_or-set_other, get_or-set_same}
use Rattle.std.proofs.lemmas.Nat.{mul-le}
use Rattle.std.specs.List.{slice_get}
use Rattle.image_means.specs.Blur.{box_sum, box_first, box_end, pixels_upto, sum_at, sums_mean, whole_count, AreSumsBefore, AreSumsFor, BlursSpan, CanBlur, IsSumBefore, PutsSample}
use Rattle.image_means.specs.Division.{factor_of}
use Rattle.image_means.specs.Means.{rounded_mean, sample_cells, sample_number, cell_number}
use Rattle.image_means.specs.declared.blur.Place.{Place}
use Rattle.image_shape.specs.declared.samples.SampleBytes.{SampleBytes}
use Rattle.image_means.proofs.Factors.{small, mean_by_factor, product_fits}
use Rattle.image_means.proofs.Rounding.{some_pixels, rounded_within}
use Rattle.image_means.proofs.Samples.{of_bytes, sample_short}
use Rattle.image_means.proofs.BoxSums.{comes_in, goes_out, sample_there, same_place, sum_bound, sum_is, between_bound, upto_grows}

-- the end of a sample that comes before another one
ends_before : (cells k n c : ℕ) → k < n → c < cells → k * cells + c < n * cells
ends_before cells k n c order inner =
    let next : (k + 1) * cells ≤ n * cells = mul-le-mul_right cells (omega (arith, order)) in
    omega (arith, next, add-mul k 1 cells, inner)

-- how many columns the box around a pixel has
abbrev pub columns : List ℕ → ℕ → ℕ → ℕ → ℕ
columns sums per across p = box_end across (length sums / per) p - box_first across p

-- ---- a sample at one place

module _ (bytes : SampleBytes) (sums : List ℕ) (per at across lines : ℕ) where
  abbrev upto : ℕ → ℕ
  upto n = pixels_upto sums per at n

  abbrev pixels : ℕ
  pixels = length sums / per

  abbrev greatest : ℕ
  greatest = sample_number bytes 255 255

  abbrev cells : ℕ
  cells = sample_cells bytes

  -- the sum of a box, and of how many samples it is
  pub record IsBoxed (p sum count : ℕ) : Type 0 where
    pub mean : rounded_mean sum count ≡ sums_mean sums per across lines p at
    pub some : 0 < count
    pub samples : sum ≤ count * 65535
    pub value : rounded_mean sum count ≤ greatest

  module _ (width : ℕ) (place : at < per) (are : AreSumsFor bytes per lines sums width) (p : ℕ) (here : p < pixels) where
    boxed_by : (sum : ℕ) → sum + upto (p - across) ≡ upto (min pixels (p + across + 1)) → (count : ℕ) → count ≡ columns sums per across p * lines → IsBoxed p sum count
    boxed_by sum is count counts =
        let box : sum ≡ box_sum sums per across p at = sum_is sums per at (lines * greatest) place are.whole are.bounds across p here sum is in
        let any : 0 < count = omega (arith, counts, some_pixels lines are.some (columns sums per across p) (omega (arith, here))) in
        let within : sum ≤ count * greatest = omega (arith, box, sum_bound sums per at (lines * greatest) place are.whole are.bounds across p here, mul_assoc (columns sums per across p) lines greatest, ap (λ n. n * greatest) counts) in
        let short = mul-le count greatest count 65535 (omega arith) (omega (arith, sample_short bytes 255 (of_bytes bytes) (omega arith))) in
        record {
          mean = ap₂ rounded_mean box counts;
          some = any;
          samples = omega (arith, within, short);
          value = rounded_within sum count any greatest within;
        }

    -- the sample's cells are there, and what a mean puts fits them
    cells_end : (p * per + at + 1) * cells ≤ width
    cells_end =
        let there : p * per + at < length sums = sample_there sums per at (lines * greatest) place are.whole are.bounds p here in
        let next : (p * per + at + 1) * cells ≤ length sums * cells = mul-le-mul_right cells (omega (arith, there)) in
        omega (arith, next, are.row)

  -- whole boxes that have a factor have sums of 32 bits, and some room
  few_sums : (width factor : ℕ) → at < per → AreSumsFor bytes per lines sums width → factor ≡ factor_of ((2 * across + 1) * lines) → 0 < factor → (first end : ℕ) → end ≡ first + (2 * across + 1) → end ≤ pixels → upto end + 2 ^ 16 < 2 ^ 32 + upto first
  few_sums width factor place are is more first end apart within =
      let count : ℕ = (2 * across + 1) * lines in
      let size : end - first ≡ 2 * across + 1 = omega (arith, apart) in
      let bound = between_bound sums per at (lines * greatest) place are.whole are.bounds first end (omega (arith, apart)) within in
      let all : (end - first) * (lines * greatest) ≡ count * greatest = ap (λ n. n * (lines * greatest)) size ∙ sym (mul_assoc (2 * across + 1) lines greatest) in
      let short = mul-le count greatest 46340 65535 ((small count factor is more).0) (omega (arith, sample_short bytes 255 (of_bytes bytes) (omega arith))) in
      omega (arith, bound, all, short)

  -- the sum of a box is the one before the next box
  pub next_before : (p more sum : ℕ) → sum + upto (p - across) ≡ more + upto (min pixels (p + across + 1)) → IsSumBefore sums per at across (p + 1) more sum
  next_before p more sum is =
      omega (
        arith,
        is,
        ap upto (let e : p + 1 - (across + 1) ≡ p - across = omega arith in e),
        ap upto (let e : min pixels (p + 1 + across) ≡ min pixels (p + across + 1) = omega arith in e),
      )

-- ---- the samples at some places

-- a list with one such sum more
pub sums_widen : {place : Place} {sums : List ℕ} {p more i : ℕ} {old : List ℕ} (value : ℕ) → i < length old → AreSumsBefore place sums p more i old → IsSumBefore sums place.blur.per (place.at + i) place.blur.across p more value → AreSumsBefore place sums p more (i + 1) (slice_set old i value)
sums_widen {place} {sums} {p} {more} {i} {old} value there so is = record {
  each = λ j below.
      elim (cases_lt j i) [
        | inl earlier ↦ omega (arith, so.each j earlier, get_or-set_other old i j value 0 (λ same. absurd (omega (arith, same, earlier))))
        | inr last ↦
            let same : i ≡ j = omega (arith, below, last) in
            subst (λ m. IsSumBefore sums place.blur.per (place.at + m) place.blur.across p more (sum_at (slice_set old i value) m)) same (omega (arith, is, get_or-set_same old i value 0 there))
      ];
}

module _ {place : Place} {count : ℕ} {sums : List ℕ} {width : ℕ} (can : CanBlur place count sums width) where
  abbrev bytes : SampleBytes
  bytes = place.blur.bytes

  abbrev per : ℕ
  per = place.blur.per

  abbrev across : ℕ
  across = place.blur.across

  module _ (i : ℕ) (inner : i < count) where
    abbrev k : ℕ
    k = place.at + i

    within : k < per
    within = omega (arith, inner, can.places)

    -- the box around a pixel
    pub box : {p sum : ℕ} (end first : ℕ) → p < length sums / per → sum + pixels_upto sums per k (p - across) ≡ pixels_upto sums per k (min (length sums / per) (p + across + 1)) → end ≡ min (length sums / per) (p + across + 1) → first ≡ p - across → IsBoxed bytes sums per k across place.lines p sum ((end - first) * place.lines)
    box {p} {sum} end first here is last begins = boxed_by bytes sums per k across place.lines width within can.for_row p here sum is ((end - first) * place.lines) (ap (λ n. n * place.lines) (ap₂ (λ e f. e - f) last begins))

    pub sample_end : {p : ℕ} → p < length sums / per → (p * per + k + 1) * sample_cells bytes ≤ width
    sample_end {p} here = cells_end bytes sums per k across place.lines width within can.for_row p here

    -- ---- the box around a pixel that no end of the row cuts

    abbrev half : ℕ
    half = whole_count place / 2

    abbrev lost : ℕ → ℕ
    lost p = sum_at sums ((p - across - 1) * per + k)

    abbrev gained : ℕ → ℕ
    gained p = sum_at sums ((p + across) * per + k)

    grows : (m n : ℕ) → m ≤ n → pixels_upto sums per k m ≤ pixels_upto sums per k n
    grows = upto_grows sums per k (place.lines * sample_number bytes 255 255) within can.for_row.whole can.for_row.bounds

    pub half_fits : (p factor sum : ℕ) → across < p → p + across ≤ length sums / per → factor ≡ factor_of (whole_count place) → 0 < factor → IsSumBefore sums per k across p 0 sum → sum + half < 2 ^ 32
    half_fits p factor sum first last is more so =
        let most = few_sums bytes sums per k across place.lines width factor within can.for_row is more (p - (across + 1)) (p + across) (omega (arith, first)) last in
        omega (arith, most, so, (small (whole_count place) factor is more).0, ap (pixels_upto sums per k) (let e : min (length sums / per) (p + across) ≡ p + across = omega (arith, last) in e))

    pub half_within : (p number : ℕ) → p ≤ length sums / per → IsSumBefore sums per k across p half number → half ≤ number
    half_within p number here so = omega (arith, so, grows (p - (across + 1)) (min (length sums / per) (p + across)) (omega (arith, here)))

    -- its number, by that of the box before it: the mean is its quotient
    pub record IsWholeBox (p factor before : ℕ) : Type 0 where
      pub loses : lost p ≤ before
      pub fits : before - lost p + gained p < 2 ^ 32
      pub next : IsSumBefore sums per k across (p + 1) half (before - lost p + gained p)
      pub product : (before - lost p + gained p) * factor < 2 ^ 64
      pub mean : (before - lost p + gained p) * factor / 2 ^ 47 ≡ sums_mean sums per across place.lines p k
      pub value : (before - lost p + gained p) * factor / 2 ^ 47 ≤ sample_number bytes 255 255

    pub whole_box : {p factor before : ℕ} → across < p → p + across < length sums / per → factor ≡ factor_of (whole_count place) → 0 < factor → IsSumBefore sums per k across p half before → IsWholeBox p factor before
    whole_box {p} {factor} {before} first last is more so =
        let number : ℕ = before - lost p + gained p in
        let sum : ℕ = number - half in
        let upto : ℕ → ℕ = pixels_upto sums per k in
        let end : min (length sums / per) (p + across + 1) ≡ p + across + 1 = omega (arith, last) in
        let parts = small (whole_count place) factor is more in
        let out = goes_out sums per k across p first in
        let less : lost p ≤ before = omega (arith, so, grows (p - across) (min (length sums / per) (p + across)) (omega (arith, last)), out) in
        let now : number + upto (p - across) ≡ half + upto (min (length sums / per) (p + across + 1)) = omega (arith, comes_in sums per k across p half before (before + gained p) so (inl (last, omega arith)), less, out) in
        let order : upto (p - across) ≤ upto (min (length sums / per) (p + across + 1)) = grows (p - across) (min (length sums / per) (p + across + 1)) (omega (arith, last)) in
        let most = few_sums bytes sums per k across place.lines width factor within can.for_row is more (p - across) (p + across + 1) (omega (arith, first)) (omega (arith, last)) in
        let split : number ≡ sum + half = omega (arith, now, order) in
        let boxed = boxed_by bytes sums per k across place.lines width within can.for_row p (let here : p < length sums / per = omega (arith, last) in here) sum (omega (arith, now, order)) (whole_count place) (ap (λ n. n * place.lines) (let e : 2 * across + 1 ≡ columns sums per across p = omega (arith, first, last) in e)) in
        let quotient : number * factor / 2 ^ 47 ≡ rounded_mean sum (whole_count place) = ap (λ n. n * factor / 2 ^ 47) split ∙ mean_by_factor sum (whole_count place) factor boxed.some is more boxed.samples in
        record {
          loses = less;
          fits = omega (arith, most, now, parts.0, ap upto end);
          next = next_before bytes sums per k across place.lines p half number now;
          product = omega (arith, product_fits sum (whole_count place) boxed.some parts.0 boxed.samples factor parts.1, ap (λ n. n * factor) split);
          mean = quotient ∙ boxed.mean;
          value = omega (arith, quotient, boxed.value);
        }

    -- one sample more is put
    pub span_widens : {p value : ℕ} {old row new : List ℕ} → value ≡ sums_mean sums per across place.lines p k
        → BlursSpan place i sums p (p + 1) old row → PutsSample bytes ((p * per + k) * sample_cells bytes) value row new → BlursSpan place (i + 1) sums p (p + 1) old new
    span_widens {p} {value} {old} {row} {new} is so put =
        let cells : ℕ = sample_cells bytes in
        let at : ℕ = p * per + k in
        record {
          as_many = put.as_many ∙ so.as_many;
          each = λ q j n after below upto inside.
              let here : q ≡ p = omega (arith, after, below) in
              elim (cases_lt j i) [
                | inl earlier ↦ put.others ((q * per + (place.at + j)) * cells + n) (inl (omega (arith, ends_before cells (q * per + (place.at + j)) at n (omega (arith, ap (λ m. m * per) here, earlier)) inside))) ∙ so.each q j n after below earlier inside
                | inr last ↦
                    let same : j ≡ i = omega (arith, upto, last) in
                    ap₂ (λ m o. slice_get new ((m * per + (place.at + o)) * cells + n)) here same
                    ∙ put.each n inside
                    ∙ ap (λ m. Some (cell_number bytes n m)) (is ∙ sym (ap₂ (λ m o. sums_mean sums per across place.lines m (place.at + o)) here same))
              ];
          others = λ q b n inside there short apart.
              let cell : ℕ = q * per + b in
              let so_far = so.others q b n inside there short (λ low high. apart low (omega (arith, high))) in
              elim (cases_lt cell at) [
                | inl earlier ↦ put.others (cell * cells + n) (inl (omega (arith, ends_before cells cell at n earlier short))) ∙ so_far
                | inr later ↦
                    elim (cases_lt at cell) [
                      | inl after ↦
                          let next : (at + 1) * cells ≤ cell * cells = mul-le-mul_right cells (omega (arith, after)) in
                          put.others (cell * cells + n) (inr (omega (arith, next, add-mul at 1 cells))) ∙ so_far
                      | inr not ↦
                          let this = same_place per q b p k inside within (omega (arith, later, not)) in
                          elim (apart (omega (arith, this.1)) (omega (arith, this.1))) [ inl before ↦ absurd (omega (arith, before, this.0)) | inr after ↦ absurd (omega (arith, after, this.0)) ]
                    ]
              ];
        }

  -- two spans, one after the other
  pub spans_join : {from mid end : ℕ} {old row new : List ℕ} → from ≤ mid → mid ≤ end → end ≤ length sums / per → BlursSpan place count sums from mid old row → BlursSpan place count sums mid end row new → BlursSpan place count sums from end old new
  spans_join {from} {mid} {end} {old} {row} {new} begins goes_on ends first second = record {
    as_many = second.as_many ∙ first.as_many;
    each = λ p i n after below inner inside.
        elim (cases_lt p mid) [
          | inl earlier ↦
              let next : (p + 1) * per ≤ length sums / per * per = mul-le-mul_right per (omega (arith, below, ends)) in
              second.others p (place.at + i) n (within i inner) (omega (arith, next, add-mul p 1 per, within i inner, can.for_row.whole)) inside (λ _ _. inl earlier) ∙ first.each p i n after earlier inner inside
          | inr later ↦ second.each p i n later below inner inside
        ];
    others = λ p a n inside there short apart.
        second.others p a n inside there short (λ low high. elim (apart low high) [ inl before ↦ inl (omega (arith, before, begins)) | inr after ↦ inr after ])
        ∙ first.others p a n inside there short (λ low high. elim (apart low high) [ inl before ↦ inl before | inr after ↦ inr (omega (arith, after, goes_on)) ]);
  }
