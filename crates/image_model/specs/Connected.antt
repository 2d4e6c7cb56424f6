-- Places that are connected: by their sides (4-connected), over places that show one pixel.
use Rattle.std.specs.Prelude.{◌≡◌, ℕ, ◌+◌, ◌-◌, ◌⊎◌, Some, List, [], ◌∷◌}
use Rattle.std.specs.List.{Contains}
use Rattle.image_model.specs.Grid.{Grid}

-- two places share a side
abbrev pub Beside : ℕ → ℕ → ℕ → ℕ → Type 0
Beside x y u v = ((y ≡ v) × ((u ≡ x + 1) ⊎ (x ≡ u + 1))) ⊎ ((x ≡ u) × ((v ≡ y + 1) ⊎ (y ≡ v + 1)))

-- the places beside column x of row y: to the right, below, to the left and above. At an edge one is the place itself
abbrev pub beside : ℕ → ℕ → List (ℕ × ℕ)
beside x y = (x + 1, y) ∷ (x, y + 1) ∷ (x - 1, y) ∷ (x, y - 1) ∷ []

-- a path leads from column x of row y to another place. Each of its steps crosses a side, and each of its places shows the pixel of its start
pub data IsConnected {T : Type 0} (g : Grid T) (x y : ℕ) : ℕ → ℕ → Type 0 where
  start : IsConnected g x y x y
  next : {u v m n : ℕ} → IsConnected g x y u v → Beside u v m n → g.pixel m n ≡ g.pixel x y → IsConnected g x y m n

-- each place is as before, or it is connected with column x of row y and has the value now
abbrev pub AreFilled : {T : Type 0} → ℕ → ℕ → T → Grid T → Grid T → Type 0
AreFilled x y value old new = (u v : ℕ) → (new.pixel u v ≡ old.pixel u v) ⊎ (IsConnected old x y u v × (new.pixel u v ≡ Some value))

-- each place that is connected with column x of row y has the value
abbrev pub AllFilled : {T : Type 0} → ℕ → ℕ → T → Grid T → Grid T → Type 0
AllFilled x y value old new = (u v : ℕ) → IsConnected old x y u v → new.pixel u v ≡ Some value

-- ---- while they are filled

-- a fill that began in g at column x of row y has come to h: the pending places have to be looked at
pub record Flooding {T : Type 0} (g : Grid T) (x y : ℕ) (value : T) (h : Grid T) (pending : List (ℕ × ℕ)) : Type 0 where
  pub filled : AreFilled x y value g h
  pub connected : (u v : ℕ) → Contains pending (u, v) → g.pixel u v ≡ g.pixel x y → IsConnected g x y u v
  pub waiting : (u v m n : ℕ) → IsConnected g x y u v → h.pixel u v ≡ Some value → Beside u v m n → h.pixel m n ≡ g.pixel x y → Contains pending (m, n)
  pub begun : (h.pixel x y ≡ Some value) ⊎ Contains pending (x, y)
