-- Images whose pixels were made from their places.
use Rattle.std.proofs.Common.{◌≡◌, ℕ, ◌+◌, ◌*◌, ◌-◌, max, List, sym, ap, ◌∙◌, arith}
use Rattle.std.specs.List.{slice_get}
use Rattle.image_model.specs.Layout.{Fits, layout}
use Rattle.image_model.specs.ByPlace.{HasResults, IsFromPlaces}
use Rattle.image_model.specs.Compaction.{least_stride}
use Rattle.image_model.proofs.ByPlace.{is_from_places}
use Rattle.image_ops.specs.Made.{AreMade}

pub least_is : (width : ℕ) → max width 1 ≡ least_stride width
least_is width = grind arith

module _ {T : Type 0} (answers : ℕ → ℕ → T → Type 0) (width height : ℕ) (pixels : List T) (stride : ℕ) (so : AreMade answers width height pixels) (is : stride ≡ max width 1) where
  pub made_fits : Fits (layout pixels width height stride)
  made_fits wide high =
      let s : stride ≡ width = omega (arith, is, wide) in
      let k : ℕ = height - 1 in
      let next : width * k + width ≡ (k + 1) * width = omega arith in
      let up : k + 1 ≡ height = omega (arith, high) in
      let all : stride * k + width ≡ height * width = ap (λ n. n * k + width) s ∙ next ∙ ap (λ n. n * width) up in
      omega (arith, all, so.as_many)

  pub made_results : HasResults answers width height (layout pixels width height stride)
  made_results x y q column line there = let s : stride ≡ width = omega (arith, is, column) in so.each x y q column line (ap (λ n. slice_get pixels (y * n + x)) (sym s) ∙ there)

  pub made_grid : IsFromPlaces answers width height (layout pixels width height stride)
  made_grid = is_from_places answers (layout pixels width height stride) made_fits made_results

pub ruleset made_images = (least_is, made_fits, made_grid)
