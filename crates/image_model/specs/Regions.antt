-- Regions of connected places, and their labels.
use Rattle.std.specs.Prelude.{◌≡◌, ℕ, ◌<◌, ◌≤◌, ◌⊎◌, ◌==◌, ◌&&◌, Bool, Some}
use Rattle.std.specs.Bool.{Decides}
use Rattle.image_model.specs.Grid.{Grid}
use Rattle.image_model.specs.ByPlace.{zipped}
use Rattle.image_model.specs.Connected.{IsConnected}

-- pixels are equal by a test exactly if they are one
abbrev pub TellsApart : {T : Type 0} → (T → T → Bool) → Type 0
TellsApart {T} eq = (p q : T) → Decides (eq p q) (p ≡ q)

-- the labels are 1, 2 and so on up to a count, and each of them is used. Places have one label exactly if they are connected. Which region gets which label is free
pub record AreRegions {T : Type 0} (g : Grid T) (labels : Grid ℕ) (count : ℕ) : Type 0 where
  pub same_width : labels.width ≡ g.width
  pub same_height : labels.height ≡ g.height
  pub labelled : (x y : ℕ) → x < g.width → y < g.height → (n : ℕ) × (labels.pixel x y ≡ Some n) × (0 < n) × (n ≤ count)
  pub used : (n : ℕ) → 0 < n → n ≤ count → (x : ℕ) × (y : ℕ) × (labels.pixel x y ≡ Some n)
  pub apart : (x y u v n : ℕ) → labels.pixel x y ≡ Some n → labels.pixel u v ≡ Some n → IsConnected g x y u v
  pub together : (x y u v n : ℕ) → labels.pixel x y ≡ Some n → IsConnected g x y u v → labels.pixel u v ≡ Some n

-- ---- while regions get their labels

-- labels up to a count are given to whole regions, and the other places have 0
pub record Labelled {T : Type 0} (g : Grid T) (labels : Grid ℕ) (count : ℕ) : Type 0 where
  pub within : (x y n : ℕ) → labels.pixel x y ≡ Some n → n ≤ count
  pub used : (n : ℕ) → 0 < n → n ≤ count → (x : ℕ) × (y : ℕ) × (labels.pixel x y ≡ Some n)
  pub apart : (x y u v n : ℕ) → 0 < n → labels.pixel x y ≡ Some n → labels.pixel u v ≡ Some n → IsConnected g x y u v
  pub together : (x y u v n : ℕ) → 0 < n → labels.pixel x y ≡ Some n → IsConnected g x y u v → labels.pixel u v ≡ Some n

-- the place in column x of row y has a label
abbrev pub HasLabel : Grid ℕ → ℕ → ℕ → Type 0
HasLabel labels x y = (n : ℕ) × (labels.pixel x y ≡ Some n) × (0 < n)

-- the places before column x of row y have labels, where there are so many columns
abbrev pub AreDone : Grid ℕ → ℕ → ℕ → ℕ → Type 0
AreDone labels width x y = (u v : ℕ) → u < width → (v < y) ⊎ ((v ≡ y) × (u < x)) → HasLabel labels u v

-- a place that had a label keeps it
abbrev pub KeepsLabels : Grid ℕ → Grid ℕ → Type 0
KeepsLabels old new = (u v n : ℕ) → 0 < n → old.pixel u v ≡ Some n → new.pixel u v ≡ Some n

-- whether each place has no label yet and passes a test
unfoldable pub unlabelled : {T : Type 0} → (T → Bool) → Grid T → Grid ℕ → Grid Bool
unlabelled test g labels = zipped (λ label p. (label == 0) && test p) labels g

-- one region got label n, from column x of row y on: each place is as before, or it is connected and has the label, as each connected place has
pub record HasRegion {T : Type 0} (test : T → Bool) (g : Grid T) (x y n : ℕ) (old new : Grid ℕ) : Type 0 where
  pub each : (u v : ℕ) → (new.pixel u v ≡ old.pixel u v) ⊎ (IsConnected (unlabelled test g old) x y u v × (new.pixel u v ≡ Some n))
  pub all : (u v : ℕ) → IsConnected (unlabelled test g old) x y u v → new.pixel u v ≡ Some n

-- the place in column x of row y is looked at: it has a label then, and so has what had one
abbrev pub IsLabelStep : {T : Type 0} → Grid T → ℕ → ℕ → Grid ℕ → ℕ → Grid ℕ → ℕ → Type 0
IsLabelStep g x y old count new more = Labelled g old count → Labelled g new more × HasLabel new x y × KeepsLabels old new
