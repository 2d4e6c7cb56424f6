-- Cursors over one image with one tiling are one: what a cursor keeps of their sizes says nothing more.
use Rattle.std.proofs.Common.{◌≡◌, ℕ}
use Rattle.std.proofs.Math.Path.{PathP, to_path_p}
use Rattle.std.proofs.Math.Nat.{ℕ_set}
use Rattle.imgref.specs.declared.img.Img.{Img}
use Rattle.imgref.specs.Image.{width_of, height_of}
use Rattle.image_tiles.specs.Tiling.{tiling_width, tiling_height}
use Rattle.image_tiles.specs.declared.tiles.TileCursor.{TileCursor}
use Rattle.image_tiles.specs.declared.tiling.Tiling.{Tiling}

-- numbers that are one are one in one way
in_one_way : (m m' n n' : ℕ) (p : m ≡ m') (q : n ≡ n') (e : m ≡ n) (f : m' ≡ n') → PathP (λ k. p k ≡ q k) e f
in_one_way m m' n n' p q e f = to_path_p (λ k. p k ≡ q k) {a = e} (ℕ_set _ _ _ f)

pub same_cursor : {C : Type 0} (i j : Img C) (t u : Tiling) (same : i ≡ j) (alike : t ≡ u) (p : width_of i ≡ tiling_width t) (p' : width_of j ≡ tiling_width u) (q : height_of i ≡ tiling_height t) (q' : height_of j ≡ tiling_height u)
    → ◌≡◌ {A = TileCursor C} (record { img = i; tiling = t; same_width = p; same_height = q }) (record { img = j; tiling = u; same_width = p'; same_height = q' })
same_cursor i j t u same alike p p' q q' = λ k. record {
  img = same k;
  tiling = alike k;
  same_width = in_one_way _ _ _ _ (λ h. width_of (same h)) (λ h. tiling_width (alike h)) p p' k;
  same_height = in_one_way _ _ _ _ (λ h. height_of (same h)) (λ h. tiling_height (alike h)) q q' k;
}
