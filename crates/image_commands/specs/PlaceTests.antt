-- Whether the contents of the places of two sizes agree, as a test.
use Rattle.std.specs.Prelude.{ℕ, Bool, true, false, ◌&&◌, ◌==◌, Option, Some, None}
use Rattle.std.specs.List.{list_all, range_with_len}

-- a test holds at each place of a size
abbrev pub at_each_place : ℕ → ℕ → (ℕ → ℕ → Bool) → Bool
at_each_place width height test = list_all (λ y. list_all (λ x. test x y) (range_with_len 0 width)) (range_with_len 0 height)

-- equal pixels, or nothing in both
abbrev pub are_alike_pixels : {T : Type 0} → (T → T → Bool) → Option T → Option T → Bool
are_alike_pixels eq None None = true
are_alike_pixels eq (Some a) (Some b) = eq a b
are_alike_pixels eq _ _ = false

-- the same width and height, and a test holds at each place of that size
abbrev pub agree_at_places : ℕ → ℕ → ℕ → ℕ → (ℕ → ℕ → Bool) → Bool
agree_at_places v w m n test = (v == w) && ((m == n) && at_each_place v m test)
