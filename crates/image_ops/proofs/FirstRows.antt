-- Rows of two layouts compared from the first on, and the rows of one fed to a hasher.
use Rattle.std.proofs.Common.{subst, ◌≡◌, ℕ, zero, suc, ◌+◌, ◌-◌, ◌*◌, ◌<◌, Bool, true, false, ◌&&◌, List, [], ◌∷◌, ◌++◌, length, map, take, refl, sym, ◌∙◌, ap, arith, length-take}
use Rattle.std.specs.Cmp.Lexicographic.{pointwise}
use Rattle.std.specs.List.{range_with_len, flat_map, fold}
use Rattle.std.specs.Hash.{HashWrites, fed_then, fed_along}
use Rattle.std.proofs.lemmas.List.{flat_map_more}
use Rattle.std.proofs.lemmas.List.FromFn.{map-range_with_len_more, length-map-range_with_len}
use Rattle.image_model.specs.Layout.{Layout, layout, Fits}
use Rattle.image_model.specs.Rows.{row, rows, row_count}
use Rattle.image_model.proofs.Rows.{HasRows, joined_upto, joined_upto_suc, length-joined_upto, length-joined_rows, joined_first, row_reached}

-- the first rows of a layout
abbrev pub first_rows : {T : Type 0} → Layout T → ℕ → List (List T)
first_rows l n = map (row l) (range_with_len 0 n)

one_more : {T : Type 0} (l : Layout T) (n : ℕ) → first_rows l (n + 1) ≡ first_rows l n ++ row l n ∷ []
one_more l n = map-range_with_len_more (row l) 0 n n (omega arith)

-- ---- compared

and_true : (s : Bool) → (s && true) ≡ s
and_true true = refl
and_true false = refl

pub and_false : (s : Bool) → (s && false) ≡ false
and_false true = refl
and_false false = refl

and_assoc : (r s t : Bool) → (r && (s && t)) ≡ (r && s && t)
and_assoc true s t = refl
and_assoc false s t = refl

pub pointwise_joins : {A B : Type 0} (E : A → B → Bool) (xs : List A) (ys : List B) (us : List A) (vs : List B) → length xs ≡ length ys
    → pointwise E (xs ++ us) (ys ++ vs) ≡ (pointwise E xs ys && pointwise E us vs)
pointwise_joins E [] [] us vs h = refl
pointwise_joins E [] (w ∷ ys) us vs h = absurd (omega arith)
pointwise_joins E (w ∷ xs) [] us vs h = absurd (omega arith)
pointwise_joins E (v ∷ xs) (w ∷ ys) us vs h =
    let i = pointwise_joins E xs ys us vs (omega arith) in
    rw i (and_assoc (E v w) (pointwise E xs ys) (pointwise E us vs))

pub pointwise_more : {A B : Type 0} (E : A → B → Bool) (xs : List A) (ys : List B) (x : A) (y : B) → length xs ≡ length ys → pointwise E (xs ++ x ∷ []) (ys ++ y ∷ []) ≡ (pointwise E xs ys && E x y)
pointwise_more E xs ys x y h = pointwise_joins E xs ys (x ∷ []) (y ∷ []) h ∙ ap (λ s. pointwise E xs ys && s) (and_true (E x y))

module _ {T : Type 0} (E : T → T → Bool) (a b : Layout T) where
  -- the first rows of both are equal
  abbrev pub equal_upto : ℕ → Bool
  equal_upto n = pointwise (pointwise E) (first_rows a n) (first_rows b n)

  more : (n : ℕ) → equal_upto (n + 1) ≡ (equal_upto n && pointwise E (row a n) (row b n))
  more n =
      rw (one_more a n, one_more b n)
      (pointwise_more (pointwise E) (first_rows a n) (first_rows b n) (row a n) (row b n) (length-map-range_with_len (row a) 0 n ∙ sym (length-map-range_with_len (row b) 0 n)))

  stays : (n k : ℕ) → equal_upto n ≡ false → equal_upto (n + k) ≡ false
  stays n zero h = let e : n + 0 ≡ n = omega arith in ap equal_upto e ∙ h
  stays n (suc k) h =
      let e : n + suc k ≡ n + k + 1 = omega arith in
      ap equal_upto e ∙ more (n + k) ∙ ap (λ s. s && pointwise E (row a (n + k)) (row b (n + k))) (stays n k h)

  -- one row more is equal
  pub one_equal : (n : ℕ) → equal_upto n ≡ true → pointwise E (row a n) (row b n) ≡ true → equal_upto (n + 1) ≡ true
  one_equal n h k = more n ∙ (λ i. h i && k i)

  module _ (same_width : a.width ≡ b.width) (same_height : a.height ≡ b.height) where
    abbrev count : ℕ
    count = row_count a.width a.height

    -- the rows are equal if all of them are
    pub all_equal : pointwise (pointwise E) (rows a) (rows b) ≡ equal_upto count
    all_equal = λ i. pointwise (pointwise E) (rows a) (first_rows b (row_count (sym same_width i) (sym same_height i)))

    -- one that differs tells them apart
    pub one_differs : (n : ℕ) → n < count → pointwise E (row a n) (row b n) ≡ false → pointwise (pointwise E) (rows a) (rows b) ≡ false
    one_differs n below d =
        let first : equal_upto (n + 1) ≡ false = more n ∙ ap (λ t. equal_upto n && t) d ∙ and_false (equal_upto n) in
        let e : n + 1 + (count - (n + 1)) ≡ count = omega arith in
        all_equal ∙ sym (ap equal_upto e) ∙ stays (n + 1) (count - (n + 1)) first

    -- they are equal if the joined rows are
    joined_equal : (n : ℕ) → HasRows a n → HasRows b n → equal_upto n ≡ pointwise E (joined_upto a n) (joined_upto b n)
    joined_equal zero ha hb = refl
    joined_equal (suc n) ha hb =
        let above : HasRows a n = λ y lt. ha y (omega arith) in
        let beside : HasRows b n = λ y lt. hb y (omega arith) in
        let as_long : length (joined_upto a n) ≡ length (joined_upto b n) = length-joined_upto a n above ∙ ap (λ w. n * w) same_width ∙ sym (length-joined_upto b n beside) in
        let e : suc n ≡ n + 1 = omega arith in
        rw (joined_upto_suc a n, joined_upto_suc b n)
        (ap equal_upto e ∙ more n ∙ ap (λ s. s && pointwise E (row a n) (row b n)) (joined_equal n above beside)
        ∙ sym (pointwise_joins E (joined_upto a n) (joined_upto b n) (row a n) (row b n) as_long))

    -- so where the rows of both touch, they are equal if the first cells are
    pub touching_equal : Fits a → Fits b → a.width ≡ a.stride → b.width ≡ b.stride
        → pointwise (pointwise E) (rows a) (rows b) ≡ pointwise E (take (a.width * a.height) a.cells) (take (a.width * a.height) b.cells)
    touching_equal fits others touch touching =
        let ha : HasRows a count = λ y lt. row_reached (length a.cells) a.width a.height a.stride y fits lt in
        let same : row_count b.width b.height ≡ count = λ i. row_count (sym same_width i) (sym same_height i) in
        let hb : HasRows b count = λ y lt. row_reached (length b.cells) b.width b.height b.stride y others (rw same lt) in
        let first : joined_upto a count ≡ take (a.width * a.height) a.cells = joined_first a.cells a.width a.height a.stride (λ _ _. touch) in
        let size : b.width * b.height ≡ a.width * a.height = λ i. sym same_width i * sym same_height i in
        let second : joined_upto b count ≡ take (a.width * a.height) b.cells =
        sym (ap (joined_upto b) same) ∙ joined_first b.cells b.width b.height b.stride (λ _ _. touching) ∙ ap (λ n. take n b.cells) size in
        all_equal ∙ joined_equal count ha hb ∙ (λ i. pointwise E (first i) (second i))

-- ---- rows that touch, as one row

-- cells that fit a size fit an equal one
pub fits_as : {T : Type 0} (cells : List T) (w h s v k r : ℕ) → w ≡ v → h ≡ k → s ≡ r → Fits (layout cells w h s) → Fits (layout cells v k r)
fits_as cells w h s v k r wide high far fits =
    let same : layout cells w h s ≡ layout cells v k r = λ i. layout cells (wide i) (high i) (far i) in
    subst Fits same fits

-- the row fits where the rows do
pub one_row_fits : {T : Type 0} (cells : List T) (w h : ℕ) → Fits (layout cells w h w) → Fits (layout cells (w * h) 1 (w * h))
one_row_fits {T} cells w h fits _ _ =
    let l : Layout T = layout cells w h w in
    let all : length (take (w * h) cells) ≡ w * h = sym (ap length (joined_first cells w h w (λ _ _. refl))) ∙ length-joined_rows cells w h w fits in
    omega (arith, all, length-take (w * h) cells)

-- two such rows are equal if the rows are
pub as_one_row : {T : Type 0} (E : T → T → Bool) (xs ys : List T) (w h : ℕ) → Fits (layout xs w h w) → Fits (layout ys w h w)
    → pointwise (pointwise E) (rows (layout xs (w * h) 1 (w * h))) (rows (layout ys (w * h) 1 (w * h))) ≡ pointwise (pointwise E) (rows (layout xs w h w)) (rows (layout ys w h w))
as_one_row {T} E xs ys w h fits others =
    let size : w * h * 1 ≡ w * h = omega arith in
    touching_equal E (layout xs (w * h) 1 (w * h)) (layout ys (w * h) 1 (w * h)) refl refl (one_row_fits xs w h fits) (one_row_fits ys w h others) refl refl
    ∙ ap (λ n. pointwise E (take n xs) (take n ys)) size
    ∙ sym (touching_equal E (layout xs w h w) (layout ys w h w) refl refl fits others refl refl)

-- ---- fed

module _ {S T : Type 0} (write : S → List ℕ → S) (F : T → HashWrites) (l : Layout T) where
  -- what the first rows feed
  abbrev pub fed_upto : ℕ → HashWrites
  fed_upto n = flat_map (flat_map F) (first_rows l n)

  -- one row more is fed
  pub one_fed : (n : ℕ) (s t u : S) (r : List T) → r ≡ row l n → t ≡ fold write s (fed_upto n) → u ≡ fold write t (flat_map F r) → u ≡ fold write s (fed_upto (n + 1))
  one_fed n s t u r e h k =
      fed_along write s u (flat_map_more (flat_map F) [] (first_rows l n) (row l n) ∙ ap (flat_map (flat_map F)) (sym (one_more l n)))
      (fed_then write s t u (fed_upto n) (flat_map F (row l n)) h (k ∙ ap (λ q. fold write t (flat_map F q)) e))

-- one row more is fed by one write
pub one_row_fed : {S : Type 0} (write : S → List ℕ → S) (l : Layout ℕ) (n : ℕ) (s t u : S) (r : List ℕ) → r ≡ row l n → t ≡ fold write s (first_rows l n) → u ≡ write t r → u ≡ fold write s (first_rows l (n + 1))
one_row_fed write l n s t u r e h k =
    fed_along write s u (sym (one_more l n))
    (fed_then write s t u (first_rows l n) (row l n ∷ []) h (k ∙ ap (write t) e))
