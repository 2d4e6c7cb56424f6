-- The run of a place.
use Rattle.std.proofs.Common.{◌+◌, ◌*◌, ◌∙◌, set, true, refl, sym, ap, subst, arith, rules, ⊎_elim}
use Rattle.std.proofs.lemmas.Bool.Decides.{eqb_tells}
use Rattle.image_model.proofs.Puts.{one_fewer}
use Rattle.imgref.specs.Words.{ref_grid, shape_height, shape_width, shaped}
use Rattle.image_regions.proofs.Pending.{number_within, places_noted}
use Rattle.image_regions.specs.Runs.{IsSpreading, ShowsAlong, label_grid, open_places}
use Rattle.image_regions.proofs.Runs.{fewer_without, fills_add, run_spreads, shows_both, tells}
use Rattle.image_regions.proofs.labels.label_run.Goals as goal

pub bounds-room-count : goal.bounds-room-count
bounds-room-count g c =
    let a = c.args in
    let s = a.search.now in
    let l = shaped a.labels.now s.shape in
    omega (arith, c.requires.ready.enough, one_fewer l a.x a.y 0 s.label (λ e. omega (arith, e, c.requires.ready.some)) (tells (λ p. g.T.PartialEq.eq p s.seed) (ref_grid s.image) l a.x a.y c.requires.clear).0)

pub returns-clause-goes_on : goal.returns-clause-goes_on
returns-clause-goes_on g c begun left top looked path f =
    let a = c.args in
    let s = a.search.now in
    let from = c.run_start-from.ensures in
    let to = c.run_end-to.ensures.run in
    let seen = open_places s g.T.PartialEq.eq a.labels.now in
    let along : ShowsAlong seen true a.y a.x c.run_end-to.result = λ u l r. ⊎_elim (λ at. ap (λ z. seen.pixel z a.y) at.1 ∙ c.requires.clear) (λ other. to.along u (omega (arith, l, other.1)) r) (eqb_tells u a.x) in
    subst (λ w. IsSpreading s g.T.PartialEq.eq left top begun c.fill_run.new.labels (a.count + 1) (set a.room.now a.count (a.y * w + c.run_start-from.result)) looked) (sym c.width.ensures.value)
    (run_spreads (λ p. g.T.PartialEq.eq p s.seed) (ref_grid s.image) left top s.label c.requires.ready.some (shaped begun s.shape) (shaped a.labels.now s.shape) (shaped c.fill_run.new.labels s.shape) (shape_width s.shape) a.count a.room.now looked
    c.run_start-from.result c.run_end-to.result a.x a.y c.fill_run.ensures.fills from.before (omega (arith, to.after))
    (shows_both seen true a.y c.run_start-from.result a.x c.run_end-to.result from.run along) from.starts to.ends (bounds-room-count g c) path f)

pub returns-clause-step : goal.returns-clause-step
returns-clause-step g c =
    let a = c.args in
    let s = a.search.now in
    let from = c.run_start-from.ensures in
    let to = c.run_end-to.ensures.run in
    let fills = c.fill_run.ensures.fills in
    let seen = open_places s g.T.PartialEq.eq a.labels.now in
    let along : ShowsAlong seen true a.y a.x c.run_end-to.result = λ u l r. ⊎_elim (λ at. ap (λ z. seen.pixel z a.y) at.1 ∙ c.requires.clear) (λ other. to.along u (omega (arith, l, other.1)) r) (eqb_tells u a.x) in
    let l = shaped a.labels.now s.shape in
    let adds = fills_add (λ p. g.T.PartialEq.eq p s.seed) (ref_grid s.image) l s.label a.y c.run_start-from.result c.run_end-to.result (label_grid s c.fill_run.new.labels) (shows_both seen true a.y c.run_start-from.result a.x c.run_end-to.result from.run along) fills in
    let fewer = fewer_without l (shaped c.fill_run.new.labels s.shape) s.label a.x a.y c.requires.ready.some refl refl adds (tells (λ p. g.T.PartialEq.eq p s.seed) (ref_grid s.image) l a.x a.y c.requires.clear).0
    (fills.along a.x from.before (omega (arith, to.after))) in
    record {
      adds = adds;
      fewer = omega (arith, fewer);
      places = places_noted (shape_width s.shape * shape_height s.shape) a.count (a.y * c.width.result + c.run_start-from.result) a.room.now (bounds-room-count g c)
          (number_within (shape_width s.shape) (shape_height s.shape) c.run_start-from.result a.y _ (omega (arith, from.before, c.requires.column)) c.requires.row (ap (λ w. a.y * w + c.run_start-from.result) c.width.ensures.value)) c.requires.ready.places;
      room = search rules;
      outside = c.fill_run.ensures.outside;
      fits = c.fill_run.ensures.fits;
    }
