use Rattle.std.proofs.Common.{◌≡◌, ◌==◌, ◌&&◌, ◌<◌, true, Some, sym, ap, ◌∙◌, arith}
use Rattle.std.proofs.lemmas.Bool.Decides.{nat_tests}
use Rattle.image_model.proofs.Mapped.{has_pixel}
use Rattle.image_model.proofs.Grids.{pixel_at}
use Rattle.image_model.proofs.Reading.{pixel_read}
use Rattle.image_model.proofs.Regions.{closed_is}
use Rattle.imgref.specs.Words.{height_of, ref_grid, ref_layout, shaped, width_of}
use Rattle.image_regions.proofs.Runs.{open_shows}
use Rattle.image_regions.proofs.labels.is_open.Goals as goal

pub returns-then-at-ne0 : goal.returns-then-at-ne0
returns-then-at-ne0 g c =
    let a = c.args in
    let s = a.search.now in
    let l = ref_layout s.image in
    let column : a.x < width_of s.image = omega (arith, c.requires.column, c.requires.labels.width) in
    let row : a.y < height_of s.image = omega (arith, c.requires.row, c.requires.labels.height) in
    let has = has_pixel l c.requires.labels.fits a.x a.y column row in
    closed_is (λ p. g.T.PartialEq.eq p s.seed) (ref_grid s.image) (shaped a.labels.now s.shape) a.x a.y c.at.result has.0 c.at.ensures.pixel (λ e. omega (arith, e, c.if-at-ne0.true)) (pixel_at l a.x a.y column row ∙ has.1)

pub returns : goal.returns
returns g c =
    let a = c.args in
    let s = a.search.now in
    let column : a.x < width_of s.image = omega (arith, c.requires.column, c.requires.labels.width) in
    let row : a.y < height_of s.image = omega (arith, c.requires.row, c.requires.labels.height) in
    let shows = pixel_read (ref_layout s.image) a.x a.y _ column row c.index.ensures in
    let none : (c.at.result == 0) ≡ true = grind (arith, nat_tests, c.if-at-ne0.false) in
    open_shows (λ p. g.T.PartialEq.eq p s.seed) (ref_grid s.image) (shaped a.labels.now s.shape) a.x a.y c.at.result c.index.result.now c.at.ensures.pixel shows
    ∙ ap (λ b. Some (b && g.T.PartialEq.eq c.index.result.now s.seed)) none ∙ ap Some (sym c.eq.ensures)
