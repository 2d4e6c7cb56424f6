-- Calls of a closure with the elements of two lists, and with the pixels of two images.
use Rattle.std.specs.Prelude.{◌≡◌, ℕ, ◌<◌, Bool, true, false, List, length, slice_get, Some}
use Rattle.std.specs.Borrow.{Bor}
use Rattle.image_model.specs.Layout.{Layout, pixel}

module _ {T U : Type 0} where
  -- ---- two lists

  -- a call with the elements of number k may return r
  pub record PairAnswers (post : Bor T → Bor U → Bool → Type 0) (xs : List T) (ys : List U) (k : ℕ) (r : Bool) : Type 0 where
    pub first : Bor T
    pub second : Bor U
    pub first_is : slice_get xs k ≡ Some first.now
    pub second_is : slice_get ys k ≡ Some second.now
    pub answered : post first second r

  -- the closure may be called with the elements of each number
  abbrev pub TakesPairs : (Bor T → Bor U → Type 0) → List T → List U → Type 0
  TakesPairs pre xs ys = (k : ℕ) (p : Bor T) (q : Bor U) → k < length xs → slice_get xs k ≡ Some p.now → slice_get ys k ≡ Some q.now → pre p q

  -- a call with each pair may return true
  abbrev pub AllPairsAnswer : (Bor T → Bor U → Bool → Type 0) → List T → List U → Type 0
  AllPairsAnswer post xs ys = (k : ℕ) → k < length xs → PairAnswers post xs ys k true

  -- a call with one pair may return false, and one with each pair before it true
  abbrev pub SomePairDiffers : (Bor T → Bor U → Bool → Type 0) → List T → List U → Type 0
  SomePairDiffers post xs ys = (k : ℕ) × ((k < length xs) × (((j : ℕ) → j < k → PairAnswers post xs ys j true) × PairAnswers post xs ys k false))

  -- ---- two images

  -- a call with the pixels in column x of row y may return r
  pub record PlaceAnswers (post : Bor T → Bor U → Bool → Type 0) (k : Layout T) (l : Layout U) (x y : ℕ) (r : Bool) : Type 0 where
    pub first : Bor T
    pub second : Bor U
    pub first_is : pixel k x y ≡ Some first.now
    pub second_is : pixel l x y ≡ Some second.now
    pub answered : post first second r

  -- the closure may be called with the pixels of each place
  abbrev pub TakesPlaces : (Bor T → Bor U → Type 0) → Layout T → Layout U → Type 0
  TakesPlaces pre k l = (x y : ℕ) (p : Bor T) (q : Bor U) → x < k.width → y < k.height → pixel k x y ≡ Some p.now → pixel l x y ≡ Some q.now → pre p q

  -- images have the same size
  abbrev pub HaveOneSize : Layout T → Layout U → Type 0
  HaveOneSize k l = (k.width ≡ l.width) × (k.height ≡ l.height)

  -- images have the same size, and a call for each place may return true
  abbrev pub AllPlacesAnswer : (Bor T → Bor U → Bool → Type 0) → Layout T → Layout U → Type 0
  AllPlacesAnswer post k l = HaveOneSize k l × ((x y : ℕ) → x < k.width → y < k.height → PlaceAnswers post k l x y true)

  -- a call for some place may return false, and one for each place before it true: row by row, and from left to right
  pub record FirstDiffers (post : Bor T → Bor U → Bool → Type 0) (k : Layout T) (l : Layout U) : Type 0 where
    pub x : ℕ
    pub y : ℕ
    pub column : x < k.width
    pub line : y < k.height
    pub rows_above : (u v : ℕ) → u < k.width → v < y → PlaceAnswers post k l u v true
    pub left_of_it : (u : ℕ) → u < x → PlaceAnswers post k l u y true
    pub differs : PlaceAnswers post k l x y false

  -- where images have the same size, there is such a place
  abbrev pub SomePlaceDiffers : (Bor T → Bor U → Bool → Type 0) → Layout T → Layout U → Type 0
  SomePlaceDiffers post k l = HaveOneSize k l → FirstDiffers post k l
