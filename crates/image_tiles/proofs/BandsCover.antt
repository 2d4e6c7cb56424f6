-- The windows of bands: they are tiles as wide as the size, so they cover it, and each shows its view.
use Rattle.std.proofs.Common.{◌≡◌, ℕ, ◌+◌, ◌<◌, [], ◌∷◌, get_or, map, sym, ap, subst, ◌∙◌, arith, ◌==◌}
use Rattle.std.specs.List.{All, flat_map, range_with_len}
use Rattle.std.proofs.lemmas.List.Concat.{flat_map_single}
use Rattle.std.proofs.lemmas.Simd.{map-map}
use Rattle.std.proofs.lemmas.Bool.{cond-false}
use Rattle.std.proofs.lemmas.Bool.Decides.{nat_tests}
use Rattle.std.proofs.lemmas.List.FromFn.{length-range_with_len, get_or-range_with_len}
use Rattle.std.proofs.lemmas.List.Elements.{All-map}
use Rattle.image_model.specs.Layout.{Layout, Fits}
use Rattle.image_model.specs.Grid.{grid_of}
use Rattle.image_model.specs.Windows.{Window, window_view, IsInside, exact_window}
use Rattle.image_model.specs.Tiles.{tile_count, tile_line, tiles, EachPlaceInOne}
use Rattle.image_model.proofs.Windows.{exact_grid}
use Rattle.image_model.proofs.Tiles.{tile_begins, tiles_cover}
use Rattle.image_tiles.specs.Bands.{band_count, band_window, band_windows, bands}
use Rattle.image_model.proofs.Tables.{map_along}
use Rattle.image_tiles.proofs.BandsLeft.{count_one}

module _ (width height band_height : ℕ) (high : 0 < band_height) where
  counted : 0 < width → band_count width height band_height ≡ tile_count band_height height
  counted wide = cond-false (width == 0) 0 (tile_count band_height height) (grind (arith, nat_tests))

  -- a line of tiles as wide as the size is one band
  one_tile : 0 < width → (j : ℕ) → tile_line width height width band_height j ≡ band_window width height band_height j ∷ []
  one_tile wide j = grind (arith, count_one)

  bands_are_tiles : 0 < width → tiles width height width band_height ≡ band_windows width height band_height
  bands_are_tiles wide =
      (λ i. flat_map (λ j. one_tile wide j i) (range_with_len 0 (tile_count band_height height))) ∙ flat_map_single (band_window width height band_height) (range_with_len 0 (tile_count band_height height))
      ∙ ap (λ n. map (band_window width height band_height) (range_with_len 0 n)) (sym (counted wide))

  -- each place of the size lies in exactly one band
  pub bands_cover : EachPlaceInOne width height (band_windows width height band_height)
  bands_cover x y column line = grind (arith, bands_are_tiles, tiles_cover)

  -- band j is inside
  one_inside : (j : ℕ) → j < band_count width height band_height → IsInside width height (band_window width height band_height j)
  one_inside j below = grind (arith, tile_begins, counted)

  pub bands_inside : All (IsInside width height) (band_windows width height band_height)
  bands_inside = All-map (IsInside width height) (band_window width height band_height) (range_with_len 0 (band_count width height band_height)) (λ j d below.
      let n : ℕ = band_count width height band_height in
      let inn : j < n = omega (arith, below, length-range_with_len 0 n) in
      let at : get_or (range_with_len 0 n) j d ≡ j = omega (arith, get_or-range_with_len 0 n j d inn) in
      subst (λ i. IsInside width height (band_window width height band_height i)) (sym at) (one_inside j inn))

-- each band shows its window's view
pub bands_show : {T : Type 0} (l : Layout T) (band_height : ℕ) → Fits l → 0 < band_height
    → map grid_of (bands l band_height) ≡ map (window_view (grid_of l)) (band_windows l.width l.height band_height)
bands_show l band_height fits high =
    let n : ℕ = band_count l.width l.height band_height in
    let at : ℕ → Window = band_window l.width l.height band_height in
    map-map grid_of (λ j. exact_window l (at j)) (range_with_len 0 n)
    ∙ map_along (λ j. grid_of (exact_window l (at j))) (λ j. window_view (grid_of l) (at j)) 0 0 n (λ j below. exact_grid l (at (0 + j)) fits (one_inside l.width l.height band_height high (0 + j) (omega (arith, below))))
    ∙ sym (map-map (window_view (grid_of l)) at (range_with_len 0 n))
