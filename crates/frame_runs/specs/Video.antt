-- The lines before the frames of a video.
use Rattle.std.specs.Prelude.{◌≡◌, ◌≢◌, ℕ, ◌<◌, List, [], ◌∷◌, ◌++◌, All, length, codes}
use Rattle.frame_formats.specs.Recipe.{Recipe}

-- what may follow FRAME: nothing, or a space and fewer than 250 bytes, none of them a line feed
abbrev pub AreParameters : List ℕ → Type 0
AreParameters [] = Unit {0}
AreParameters (b ∷ bs) = (b ≡ 32) × All (λ c. c ≢ 10) bs × (length bs < 250)

-- the line of a frame, with its line feed
abbrev pub frame_line : List ℕ → List ℕ
frame_line parameters = codes "FRAME" ++ (parameters ++ 10 ∷ [])

-- a recipe with another head
abbrev pub with_head : List ℕ → Recipe → Recipe
with_head head r = record { head = head; size = r.size; other_size = r.other_size; frame = r.frame; jobs = r.jobs }

-- a head is the line of a frame: it stays, and the cells become what they do in this video
pub record FrameHead (video : Recipe) (head : List ℕ) (recipe : Recipe) : Type 0 where
  pub parameters : List ℕ
  pub are : AreParameters parameters
  pub head_is : head ≡ frame_line parameters
  pub recipe_is : recipe ≡ with_head head video
