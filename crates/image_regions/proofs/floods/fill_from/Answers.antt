use Rattle.std.proofs.Common.{◌-◌, ◌<◌, ◌∷◌, ◌++◌, [], length, refl, ap, ◌∙◌, subst, arith}
use Rattle.std.proofs.lemmas.List.{append-nil}
use Rattle.imgref.specs.Words.{Flooding, shape_width, shaped}
use Rattle.image_model.proofs.Connected.{flood_begins, flood_ends}
use Rattle.image_model.proofs.Places.{outside_trans}
use Rattle.image_regions.specs.Pending.{cell_grid, to_look_at}
use Rattle.image_regions.proofs.Pending.{around_none, around_taken, can_begin, can_go_on, one_taken}
use Rattle.image_regions.proofs.floods.fill_from.Goals as goal

pub fill_one-count-requires : goal.fill_one-count-requires
fill_one-count-requires g c = record { ready = can_begin c.args.fill.now g.T.PartialEq.eq c.args.cells.now c.args.room.now c.requires.fits c.requires.tells c.requires.other c.requires.room }

pub loop-count-init : goal.loop-count-init
loop-count-init g c =
    let a = c.args in
    let s = a.fill.now in
    let p = a.place in
    let old = cell_grid s a.cells.now in
    let one = c.fill_one-count in
    let first = to_look_at s 0 a.room.now ++ [] ++ (p.0, p.1) ∷ [] in
    let begins = flood_begins old p.0 p.1 s.seed s.value c.requires.shows c.requires.other first (ap (λ q. q ++ [] ++ (p.0, p.1) ∷ []) (around_none (shape_width s.shape) a.room.now 0 refl)) in
    let goes_on = one.ensures.goes_on old p.0 p.1 [] c.requires.shows begins in (
      can_go_on s g.T.PartialEq.eq a.cells.now 0 a.room.now one.new.cells one.result one.new.room (can_begin s g.T.PartialEq.eq a.cells.now a.room.now c.requires.fits c.requires.tells c.requires.other c.requires.room) one.ensures.fills,
      one.ensures.fills.outside,
      one.ensures.fills.room,
      subst (Flooding old p.0 p.1 s.value (cell_grid s one.new.cells)) (append-nil (to_look_at s one.result one.new.room)) goes_on,
    )

pub loop-count-preserved : goal.loop-count-preserved
loop-count-preserved g c =
    let cells = c.args.cells.now in
    let fill = c.args.fill.now in
    let place = c.args.place in
    let l = c.loop-count in
    let i = l.invariant in
    let on = c.fill_around-count in
    let some : 0 < l.count = omega arith in
    let below : l.count - 1 < length l.room = omega (arith, some, i.0.enough) in
    let taken = around_taken (shape_width fill.shape) l.room (l.count - 1) l.count (omega (arith, some)) below in (
      can_go_on fill g.T.PartialEq.eq l.cells (l.count - 1) l.room on.new.cells on.result on.new.room (one_taken fill g.T.PartialEq.eq l.cells l.count l.room i.0) on.ensures.fills,
      outside_trans (shaped cells fill.shape) (shaped l.cells fill.shape) (shaped on.new.cells fill.shape) i.1 on.ensures.fills.outside,
      on.ensures.fills.room ∙ i.2,
      on.ensures.goes_on (cell_grid fill cells) place.0 place.1 c.requires.shows (subst (Flooding (cell_grid fill cells) place.0 place.1 fill.value (cell_grid fill l.cells)) taken i.3),
    )

pub returns-clause-all : goal.returns-clause-all
returns-clause-all g c =
    let a = c.args in
    let s = a.fill.now in
    let l = c.loop-count in
    flood_ends (cell_grid s a.cells.now) a.place.0 a.place.1 s.value (cell_grid s l.cells) (to_look_at s l.count l.room) l.invariant.3 (ap length (around_none (shape_width s.shape) l.room l.count (omega arith)))
