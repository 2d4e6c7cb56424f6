use Rattle.std.proofs.Common.{◌≡◌, ◌≢◌, ◌+◌, ◌*◌, ◌++◌, Some, true, false, sym, ap, ◌∙◌, arith, rules}
use Rattle.std.proofs.lemmas.Bool.{true≢false}
use Rattle.imgref.specs.Words.{places_where, shape_height, shape_width, shaped}
use Rattle.image_model.proofs.Connected.{flood_skips}
use Rattle.image_regions.specs.Pending.{cell_grid, to_look_at}
use Rattle.image_regions.proofs.Pending.{around_noted, number_within, one_filled, places_noted}
use Rattle.image_regions.proofs.LookedAt.{flood_notes}
use Rattle.image_regions.proofs.floods.fill_one.Goals as goal

pub returns-in_default-clause-goes_on : goal.returns-in_default-clause-goes_on
returns-in_default-clause-goes_on g c h left top rest seeded f =
    let a = c.args in
    let s = a.fill.now in
    let miss : (cell_grid s a.cells.now).pixel a.place.0 a.place.1 ≢ Some s.seed = λ e. c.in_default.not-Some s.seed (c.get.ensures.pixel ∙ e) in
    flood_skips h left top s.seed s.value seeded c.requires.ready.other (cell_grid s a.cells.now) (to_look_at s a.count a.room.now ++ rest) a.place.0 a.place.1 miss f

pub returns-then-ne-clause-goes_on : goal.returns-then-ne-clause-goes_on
returns-then-ne-clause-goes_on g c h left top rest seeded f =
    let a = c.args in
    let s = a.fill.now in
    let fails : g.T.PartialEq.eq c.in-Some.pixel s.seed ≡ false = grind (arith, c.ne.ensures, c.if-ne.true) in
    let miss : (cell_grid s a.cells.now).pixel a.place.0 a.place.1 ≢ Some s.seed = λ e.
    let same : Some c.in-Some.pixel ≡ Some s.seed = sym c.in-Some.is ∙ c.get.ensures.pixel ∙ e in true≢false (sym ((c.requires.ready.tells c.in-Some.pixel s.seed).1 (cc same)) ∙ fails) in
    flood_skips h left top s.seed s.value seeded c.requires.ready.other (cell_grid s a.cells.now) (to_look_at s a.count a.room.now ++ rest) a.place.0 a.place.1 miss f

-- (a place that shows the seed leaves room for its number)
pub returns-then-count-room-clause-goes_on : goal.returns-then-count-room-clause-goes_on
returns-then-count-room-clause-goes_on g c h left top rest seeded f =
    let a = c.args in
    let s = a.fill.now in
    let same : g.T.PartialEq.eq c.in-Some.pixel s.seed ≡ true = grind (arith, c.ne.ensures, c.if-ne.false) in
    absurd (omega (arith, c.if-count-room.true, c.requires.ready.enough, one_filled s g.T.PartialEq.eq c.requires.ready.tells c.requires.ready.other a.cells.now a.place.0 a.place.1 c.in-Some.pixel (sym c.get.ensures.pixel ∙ c.in-Some.is) same))

pub returns-then-count-room-clause-fills : goal.returns-then-count-room-clause-fills
returns-then-count-room-clause-fills g c =
    let a = c.args in
    let s = a.fill.now in
    let same : g.T.PartialEq.eq c.in-Some.pixel s.seed ≡ true = grind (arith, c.ne.ensures, c.if-ne.false) in
    absurd (omega (arith, c.if-count-room.true, c.requires.ready.enough, one_filled s g.T.PartialEq.eq c.requires.ready.tells c.requires.ready.other a.cells.now a.place.0 a.place.1 c.in-Some.pixel (sym c.get.ensures.pixel ∙ c.in-Some.is) same))

pub bounds-room-count : goal.bounds-room-count
bounds-room-count g c = omega (arith, c.if-count-room.false)

pub returns-clause-goes_on : goal.returns-clause-goes_on
returns-clause-goes_on g c h left top rest seeded f =
    let a = c.args in
    let s = a.fill.now in
    let same : g.T.PartialEq.eq c.in-Some.pixel s.seed ≡ true = grind (arith, c.ne.ensures, c.if-ne.false) in
    let hit : (cell_grid s a.cells.now).pixel a.place.0 a.place.1 ≡ Some s.seed = sym c.get.ensures.pixel ∙ c.in-Some.is ∙ ap Some ((c.requires.ready.tells c.in-Some.pixel s.seed).0 same) in
    let noted = around_noted (shape_width s.shape) a.room.now a.count a.place.0 a.place.1 (a.place.1 * c.width.result + a.place.0) (bounds-room-count g c) c.in-Some.ensures.inside.0 (ap (λ w. a.place.1 * w + a.place.0) c.width.ensures.value) in
    flood_notes h left top s.seed s.value seeded c.requires.ready.other (shaped a.cells.now s.shape) (cell_grid s c.put.new.cells) a.place.0 a.place.1 _ _ rest hit c.put.ensures.grid noted f

pub returns-clause-fills : goal.returns-clause-fills
returns-clause-fills g c =
    let a = c.args in
    let s = a.fill.now in
    let same : g.T.PartialEq.eq c.in-Some.pixel s.seed ≡ true = grind (arith, c.ne.ensures, c.if-ne.false) in
    let one = one_filled s g.T.PartialEq.eq c.requires.ready.tells c.requires.ready.other a.cells.now a.place.0 a.place.1 c.in-Some.pixel (sym c.get.ensures.pixel ∙ c.in-Some.is) same in
    record {
      fewer = omega (arith, one, ap (places_where (λ p. g.T.PartialEq.eq p s.seed)) c.put.ensures.grid);
      least = omega arith;
      places = places_noted (shape_width s.shape * shape_height s.shape) a.count (a.place.1 * c.width.result + a.place.0) a.room.now (bounds-room-count g c)
          (number_within (shape_width s.shape) (shape_height s.shape) a.place.0 a.place.1 _ c.in-Some.ensures.inside.0 c.in-Some.ensures.inside.1 (ap (λ w. a.place.1 * w + a.place.0) c.width.ensures.value)) c.requires.ready.places;
      room = search rules;
      outside = c.put.ensures.outside;
      fits = c.put.ensures.fits;
    }
