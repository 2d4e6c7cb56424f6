-- Each band of a fitting image fits and shows its view, and the bands cover the image.
use Rattle.std.proofs.Common.{rules, List, map, sym, ap, subst, ◌∙◌}
use Rattle.std.specs.List.{All}
use Rattle.image_model.specs.Layout.{Layout, Fits}
use Rattle.image_model.specs.Grid.{grid_of}
use Rattle.imgref.specs.Image.{width_of, height_of, mut_layout}
use Rattle.image_tiles.specs.Bands.{bands_left}
use Rattle.image_tiles.proofs.BandsLeft.{bands_fit}
use Rattle.image_tiles.proofs.BandsCover.{bands_show, bands_inside, bands_cover}
use Rattle.image_tiles.proofs.bands.BandsMut.new.Goals as goal

pub returns-clause-bands : goal.returns-clause-bands
unfolding bands_left
returns-clause-bands g c = search rules

pub returns-clause-fit : goal.returns-clause-fit
returns-clause-fit g c =
    subst (λ (ls : List (Layout g.row.T.Denot)). All Fits ls) (sym (returns-clause-bands g c)) (bands_fit (mut_layout c.args.img) c.args.band_height c.requires.fits c.requires.band_height)

pub returns-clause-views : goal.returns-clause-views
returns-clause-views g c = ap (λ (ls : List (Layout g.row.T.Denot)). map grid_of ls) (returns-clause-bands g c) ∙ bands_show (mut_layout c.args.img) c.args.band_height c.requires.fits c.requires.band_height

pub returns-clause-inside : goal.returns-clause-inside
returns-clause-inside g c = bands_inside (width_of c.args.img) (height_of c.args.img) c.args.band_height c.requires.band_height

pub returns-clause-each_once : goal.returns-clause-each_once
returns-clause-each_once g c = bands_cover (width_of c.args.img) (height_of c.args.img) c.args.band_height c.requires.band_height
