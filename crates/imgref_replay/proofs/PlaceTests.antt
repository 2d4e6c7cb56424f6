-- The test of grids tells whether they agree.
use Rattle.std.proofs.Common.{◌≡◌, ℕ, zero, suc, ◌+◌, ◌<◌, ◌≤◌, Bool, Some, None, Option, refl, sym, subst, arith, inl, inr, IsTrue, ◌↔◌}
use Rattle.std.specs.Bool.{Decides}
use Rattle.std.specs.List.{list_all, range_with_len}
use Rattle.std.proofs.lemmas.Bool.{cases_eq, and_parts, and_from, eqb-true, eq-eqb}
use Rattle.std.proofs.lemmas.Bool.Decides.{same_from_decides}
use Rattle.image_model.specs.Layout.{Layout, Fits}
use Rattle.image_model.specs.Grid.{Grid, grid, grid_of, Agree, AlikePixels}
use Rattle.image_model.specs.Alike.{Alike}
use Rattle.image_model.proofs.Agreement.{agree_grid}
use Rattle.image_model.proofs.Alike.{alike_agree}
use Rattle.image_model.proofs.Grids.{at_place}
use Rattle.image_commands.specs.PlaceTests.{at_each_place, are_alike_pixels, agree_at_places}

-- each number of a range passes a test
each_of_range : (test : ℕ → Bool) (a n : ℕ) → Decides (list_all test (range_with_len a n)) ((k : ℕ) → a ≤ k → k < a + n → IsTrue (test k))
each_of_range test a zero = (λ _ k low high. absurd (omega arith), λ _. refl)
each_of_range test a (suc n) =
    let rest = each_of_range test (a + 1) n in (
      λ e k low high.
          let p = and_parts _ _ e in
          elim (cases_eq k a) [
            | inl same ↦ subst (λ j. IsTrue (test j)) (sym same) p.0
            | inr differ ↦ rest.0 p.1 k (omega (arith, differ)) (omega arith)
          ],
      λ h. and_from _ _ (h a (omega arith) (omega arith)) (rest.1 (λ k low high. h k (omega arith) (omega arith))),
    )

each_place : (width height : ℕ) (test : ℕ → ℕ → Bool) → Decides (at_each_place width height test) ((x y : ℕ) → x < width → y < height → IsTrue (test x y))
each_place width height test =
    let line : (y : ℕ) → Decides (list_all (λ x. test x y) (range_with_len 0 width)) ((x : ℕ) → 0 ≤ x → x < 0 + width → IsTrue (test x y)) = λ y. each_of_range (λ x. test x y) 0 width in
    let lines = each_of_range (λ y. list_all (λ x. test x y) (range_with_len 0 width)) 0 height in (
      λ e x y column below. (line y).0 (lines.0 e y (omega arith) (omega arith)) x (omega arith) (omega arith),
      λ h. lines.1 (λ y _ below. (line y).1 (λ x _ column. h x y (omega arith) (omega arith))),
    )

module _ {T : Type 0} (eq : T → T → Bool) where
  -- grids of one size with alike pixels at each place, as a test
  abbrev pub do_agree : Grid T → Grid T → Bool
  do_agree g h = agree_at_places g.width h.width g.height h.height (λ x y. are_alike_pixels eq (g.pixel x y) (h.pixel x y))

  pixels_decide : (o p : Option T) → Decides (are_alike_pixels eq o p) (AlikePixels eq o p)
  pixels_decide None None = (λ _. tt, λ _. refl)
  pixels_decide (Some a) (Some b) = (λ e. e, λ e. e)
  pixels_decide None (Some b) = (λ e. cc, λ h. absurd h)
  pixels_decide (Some a) None = (λ e. cc, λ h. absurd h)

  agree_decides : (v w m n : ℕ) (f k : ℕ → ℕ → Option T) → let g = grid v m f in let h = grid w n k in Decides (do_agree g h) (Agree eq g h)
  agree_decides v w m n f k = grind (arith, and_parts, and_from, eqb-true, eq-eqb, agree_grid, at_place, each_place, pixels_decide)

  -- images that fit are alike exactly where the test of their grids holds
  alike_tested : (k l : Layout T) (told : Bool) → Fits k → Fits l → IsTrue told ↔ Alike eq k l → told ≡ do_agree (grid_of k) (grid_of l)
  unfolding grid_of
  alike_tested k l told k_fits l_fits decides =
      let grids = agree_decides k.width l.width k.height l.height _ _ in
      same_from_decides told (do_agree (grid_of k) (grid_of l)) decides
      (λ e. let a = grids.0 e in record { same_width = a.same_width; same_height = a.same_height; same_pixels = inl (k_fits, l_fits, a) }, λ a. grids.1 (alike_agree eq k l a k_fits))

  -- the same of the grids that are known to be theirs
  pub views_tested : (k l : Layout T) (g h : Grid T) (told : Bool) → Fits k → Fits l → IsTrue told ↔ Alike eq k l → grid_of k ≡ g → grid_of l ≡ h → told ≡ do_agree g h
  views_tested k l g h told k_fits l_fits decides one two =
      subst (λ v. told ≡ do_agree v h) one (subst (λ v. told ≡ do_agree (grid_of k) v) two (alike_tested k l told k_fits l_fits decides))
