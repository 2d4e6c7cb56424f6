-- The room that blurs need besides the planes.
use Rattle.std.specs.Prelude.{◌≡◌, ◌≤◌, ◌+◌, ◌*◌, ◌/◌, ◌&&◌, ℕ, length, Bool, true, false, nat_le, if◌then◌else◌, List, [], ◌∷◌, vec_capacity, max}
use Rattle.std.specs.List.{list_all, list_any}
use Rattle.image_shape.specs.Shape.{shape_width, shape_height}
use Rattle.image_shape.specs.declared.shape.Shape.{Shape}
use Rattle.image_planes.specs.Changes.{Job, job_len, are_inside}
use Rattle.image_planes.specs.Pixels.{HavePixels}
use Rattle.image_commands.specs.Changes.{is_blur}
use Rattle.image_commands.specs.declared.changes.Change.{Change}
use Rattle.image_commands.specs.declared.changes.Change.TheVariants.{Blur}
use Rattle.image_planes.specs.declared.change.Step.{Step}
use Rattle.image_planes.specs.declared.scratch.Scratch.{Scratch}

-- whether a step is one
abbrev pub have_blur : List (Step (List ℕ)) → Bool
have_blur steps = list_any (λ s. is_blur s.change) steps

-- a blur needs a copy of the plane, and for its rows a sum for each byte
abbrev pub copy_len : Job → ℕ
copy_len j = if have_blur j.steps then job_len j else 0

abbrev pub sums_len : Job → ℕ
sums_len j = if have_blur j.steps then j.size * j.width else 0

-- the same room serves all planes, one after the other
abbrev pub copy_room : List Job → ℕ
copy_room [] = 0
copy_room (j ∷ js) = max (copy_len j) (copy_room js)

abbrev pub sums_room : List Job → ℕ
sums_room [] = 0
sums_room (j ∷ js) = max (sums_len j) (sums_room js)

-- how many bytes it has: a sum has four
abbrev pub scratch_len : List Job → ℕ
scratch_len js = sums_room js * 4 + copy_room js

-- ---- of the code

-- there is room for the blurs of these planes
pub record HasRoom (js : List Job) (s : Scratch) : Type 0 where
  pub copy : copy_room js ≤ s.copy_room
  pub sums : sums_room js ≤ s.sums_room
  pub copy_there : s.copy_room ≤ vec_capacity s.copy
  pub sums_there : s.sums_room ≤ vec_capacity s.sums

-- how many bytes the room has
abbrev pub room_len : Scratch → ℕ
room_len s = vec_capacity s.sums * 4 + vec_capacity s.copy

-- there is room for the same planes as before
abbrev pub KeepsRoom : Scratch → Scratch → Type 0
KeepsRoom old new = (js : List Job) → HasRoom js old → HasRoom js new

-- whether a change of so many bytes, in rows of so many, has the room that it needs
abbrev pub has_room : ℕ → ℕ → ℕ → ℕ → Change (List ℕ) → Bool
has_room len row copy sums change = if is_blur change then nat_le len copy && nat_le row sums else true

abbrev pub have_room : ℕ → ℕ → ℕ → ℕ → List (Step (List ℕ)) → Bool
have_room len row copy sums steps = list_all (λ s. has_room len row copy sums s.change) steps

-- steps are valid for the pixels of an image, and blurs have the room that they need
pub record AreFor (cells : List ℕ) (s : Shape) (size copy sums : ℕ) (steps : List (Step (List ℕ))) : Type 0 where
  pub pixels : HavePixels cells s size
  pub inside : are_inside (shape_width s / size) (shape_height s) steps ≡ true
  pub room : have_room (length cells) (shape_width s) copy sums steps ≡ true
