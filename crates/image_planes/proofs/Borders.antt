-- Four windows filled with a pattern around a window are a grid of the pattern beside it.
use Rattle.std.proofs.Common.{◌≡◌, ℕ, ◌+◌, ◌-◌, ◌%◌, ◌*◌, ◌/◌, ◌<◌, ◌≤◌, Bool, true, false, cond, List, length, refl, sym, ap, ◌∙◌, arith, inl, inr}
use Rattle.std.specs.List.{slice_get}
use Rattle.std.proofs.lemmas.Bool.{cases_lt}
use Rattle.std.proofs.lemmas.Nat.{div-add-mod'}
use Rattle.std.proofs.Math.Nat.{mul-add-mod_self_left, mul_comm, mod-eq_of_lt}
use Rattle.image_model.specs.Layout.{Layout}
use Rattle.image_model.specs.Grid.{Grid, grid_of, patch, covers}
use Rattle.image_ops.specs.Repeated.{repeated}
use Rattle.image_planes.specs.Surrounds.{bordered}
use Rattle.image_model.proofs.Grids.{same_grids, at_place, covers_decides}

-- the pattern has the same cell so many whole patterns before
after_whole : (n left x : ℕ) → left % n ≡ 0 → left ≤ x → (x - left) % n ≡ x % n
after_whole n left x whole from =
    let parts : n * (left / n) + (x - left) ≡ x = omega (arith, div-add-mod' left n, mul_comm n (left / n), whole, from) in
    sym (mul-add-mod_self_left n (left / n) (x - left)) ∙ ap (λ k. k % n) parts

-- a place of rows that repeat a pattern
in_repeated : (width height : ℕ) (pattern : List ℕ) (u v : ℕ) → u < width → v < height → (repeated width height pattern).pixel u v ≡ slice_get pattern (u % length pattern)
unfolding repeated
in_repeated width height pattern u v column line = at_place width height (λ x _. slice_get pattern (x % length pattern)) u v column line

module _ (pattern : List ℕ) where
  -- a place of a filled window has the pattern's cell
  gets : (g : Grid ℕ) (left top width height x y : ℕ) → left % length pattern ≡ 0 → x < g.width → y < g.height → left ≤ x → top ≤ y → x < left + width → y < top + height
      → (patch g left top (repeated width height pattern)).pixel x y ≡ slice_get pattern (x % length pattern)
  unfolding patch repeated
  gets g left top width height x y whole column line after below before above = grind (arith, at_place, covers_decides, in_repeated, after_whole)

  -- a place that has it keeps it
  keeps : (g : Grid ℕ) (left top width height x y : ℕ) → left % length pattern ≡ 0 → x < g.width → y < g.height → g.pixel x y ≡ slice_get pattern (x % length pattern)
      → (patch g left top (repeated width height pattern)).pixel x y ≡ slice_get pattern (x % length pattern)
  unfolding patch repeated
  keeps g left top width height x y whole column line has = grind (arith, at_place, covers_decides, in_repeated, after_whole)

  module _ (g : Grid ℕ) (left top width height : ℕ) (first : 0 % length pattern ≡ 0) (whole : (left + width) % length pattern ≡ 0) where
    beside : (x y : ℕ) → left + width ≤ g.width → top + height ≤ g.height → x < g.width → y < g.height → covers left top width height x y ≡ false
        → (bordered g left top width height pattern).pixel x y ≡ slice_get pattern (x % length pattern)
    unfolding patch
    beside x y wide high column line miss =
        let a = patch g 0 0 (repeated g.width top pattern) in
        let b = patch a 0 (top + height) (repeated g.width (g.height - (top + height)) pattern) in
        let c = patch b 0 top (repeated left height pattern) in
        let last = (λ (has : c.pixel x y ≡ slice_get pattern (x % length pattern)). keeps c (left + width) top (g.width - (left + width)) height x y whole column line has) in
        let third = (λ (has : b.pixel x y ≡ slice_get pattern (x % length pattern)). last (keeps b 0 top left height x y first column line has)) in
        elim (cases_lt y top) [
          | inl above ↦ third (keeps a 0 (top + height) g.width (g.height - (top + height)) x y first column line (gets g 0 0 g.width top x y first column line (omega arith) (omega arith) (omega (arith, column)) (omega (arith, above))))
          | inr from_top ↦ elim (cases_lt y (top + height)) [
            | inr under ↦ third (gets a 0 (top + height) g.width (g.height - (top + height)) x y first column line (omega arith) under (omega (arith, column)) (omega (arith, line, under)))
            | inl to_bottom ↦ elim (cases_lt x left) [
              | inl before ↦ last (gets b 0 top left height x y first column line (omega arith) from_top (omega (arith, before)) to_bottom)
              | inr from_left ↦ elim (cases_lt x (left + width)) [
                | inr behind ↦ gets c (left + width) top (g.width - (left + width)) height x y whole column line behind from_top (omega (arith, column, behind)) to_bottom
                | inl to_right ↦ absurd (let hit : covers left top width height x y ≡ true = (covers_decides left top width height x y).1 (from_left, from_top, to_right, to_bottom) in let bad : true ≡ false = sym hit ∙ miss in cc)
              ]
            ]
          ]
        ]

  -- with the window patched it is the grid of the pattern with it patched
  filled_around : (g : Grid ℕ) (left top : ℕ) (p : Grid ℕ) → 0 < length pattern → (left + p.width) % length pattern ≡ 0 → left + p.width ≤ g.width → top + p.height ≤ g.height
      → patch (bordered g left top p.width p.height pattern) left top p ≡ patch (repeated g.width g.height pattern) left top p
  unfolding patch repeated
  filled_around g left top p some whole wide high = same_grids g.width g.height _ _ (λ x y column line. by_cover x y column line (covers left top p.width p.height x y) refl) where
    by_cover : (x y : ℕ) → x < g.width → y < g.height → (b : Bool) → covers left top p.width p.height x y ≡ b
        → cond b (p.pixel (x - left) (y - top)) ((bordered g left top p.width p.height pattern).pixel x y) ≡ cond b (p.pixel (x - left) (y - top)) ((repeated g.width g.height pattern).pixel x y)
    by_cover x y column line true e = refl
    by_cover x y column line false e =
        beside g left top p.width p.height (mod-eq_of_lt some) whole x y wide high column line e ∙ sym (in_repeated g.width g.height pattern x y column line)

-- the same of what layouts show
pub wide_is : (l : Layout ℕ) → (grid_of l).width ≡ l.width
unfolding grid_of
wide_is l = refl

pub high_is : (l : Layout ℕ) → (grid_of l).height ≡ l.height
unfolding grid_of
high_is l = refl

pub around_image : (l k : Layout ℕ) (left top width height : ℕ) (pattern : List ℕ) → k.width ≡ width → k.height ≡ height → 0 < length pattern → (left + width) % length pattern ≡ 0 → left + width ≤ l.width → top + height ≤ l.height
    → patch (bordered (grid_of l) left top width height pattern) left top (grid_of k) ≡ patch (repeated l.width l.height pattern) left top (grid_of k)
around_image l k left top width height pattern wide high some whole across down = grind (arith, filled_around, wide_is, high_is)
