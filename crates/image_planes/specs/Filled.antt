-- What the fills of a frame hide all together, where no change before one of them shows pixels at other places.
use Rattle.std.specs.Prelude.{◌≡◌, ℕ, ◌-◌, ◌/◌, ◌&&◌, Bool, true, false, not, if◌then◌else◌, List, [], ◌∷◌, take, drop}
use Rattle.std.specs.List.{list_any}
use Rattle.image_model.specs.Grid.{Grid, covers}
use Rattle.image_planes.specs.Changes.{Job, job_len, plane_grid, names}
use Rattle.image_commands.specs.Changes.{fills, spreads}
use Rattle.image_commands.specs.declared.changes.Axes.TheVariants.{Rows, Columns, Both}
use Rattle.image_planes.specs.declared.change.Step.{Step}
use Rattle.image_commands.specs.declared.changes.Change.{Change}
use Rattle.image_commands.specs.declared.changes.Change.TheVariants.{Fill, Flip}

-- one of the steps fills in the frame of this number
abbrev pub any_fills : {V : Type 0} → ℕ → List (Step V) → Bool
any_fills number steps = list_any (λ s. names s number && fills s.change) steps

-- in the frame of this number no fill comes after a change that spreads pixels
abbrev pub fills_first : {V : Type 0} → ℕ → List (Step V) → Bool
fills_first number [] = true
fills_first number (s ∷ ss) = (if names s number && spreads s.change then not (any_fills number ss) else true) && fills_first number ss

abbrev pub FillFirst : ℕ → List Job → Type 0
FillFirst number [] = Unit {0}
FillFirst number (j ∷ js) = (fills_first number j.steps ≡ true) × FillFirst number js

-- whether a change of an image of so many columns and rows fills a place, or the steps after it do (later): a flip brings the place elsewhere
abbrev pub filled_by : ℕ → ℕ → Change (List ℕ) → (ℕ → ℕ → Bool) → ℕ → ℕ → Bool
filled_by width height (Fill w value) later x y = if covers w.left w.top w.width w.height x y then true else later x y
filled_by width height (Flip Rows) later x y = later x (height - 1 - y)
filled_by width height (Flip Columns) later x y = later (width - 1 - x) y
filled_by width height (Flip Both) later x y = later (width - 1 - x) (height - 1 - y)
filled_by width height change later x y = later x y

-- whether one of the steps of the frame of this number fills a place
abbrev pub is_filled : ℕ → ℕ → ℕ → List (Step (List ℕ)) → ℕ → ℕ → Bool
is_filled width height number [] x y = false
is_filled width height number (s ∷ ss) x y = if names s number then filled_by width height s.change (is_filled width height number ss) x y else is_filled width height number ss x y

-- two grids of the bytes of a plane differ only in pixels that one of its steps fills
pub record GridsUnfilled (number : ℕ) (j : Job) (g h : Grid ℕ) : Type 0 where
  pub same_width : g.width ≡ h.width
  pub same_height : g.height ≡ h.height
  pub shown : (x y : ℕ) → is_filled j.width j.height number j.steps (x / j.size) y ≡ false → g.pixel x y ≡ h.pixel x y

-- the same of two frames of this number, plane by plane; what comes after the last plane is the same
abbrev pub PlanesUnfilled : ℕ → List Job → List ℕ → List ℕ → Type 0
PlanesUnfilled number [] p q = p ≡ q
PlanesUnfilled number (j ∷ js) p q =
    GridsUnfilled number j (plane_grid j (take (job_len j) p)) (plane_grid j (take (job_len j) q)) × PlanesUnfilled number js (drop (job_len j) p) (drop (job_len j) q)
