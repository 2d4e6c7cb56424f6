use Rattle.std.proofs.Common.{◌≡◌, ◌+◌, ◌-◌, ◌∙◌, subst, arith}
use Rattle.image_model.proofs.Places.{outside_trans}
use Rattle.image_model.specs.Connected.{start}
use Rattle.imgref.specs.Words.{ref_grid, shape_width, shaped}
use Rattle.image_regions.specs.Runs.{IsSpreading, label_grid, no_run}
use Rattle.image_regions.proofs.Runs.{can_begin, can_go_on, label_stays, one_taken, open_place, spread_begins, spread_ends}
use Rattle.image_regions.proofs.labels.label_region.Goals as goal

pub label_run-requires-clause-column : goal.label_run-requires-clause-column
label_run-requires-clause-column g c = (open_place c.args.search.now g.T.PartialEq.eq c.args.labels.now c.args.x c.args.y c.requires.clear).0

pub label_run-requires-clause-row : goal.label_run-requires-clause-row
label_run-requires-clause-row g c = (open_place c.args.search.now g.T.PartialEq.eq c.args.labels.now c.args.x c.args.y c.requires.clear).1

pub label_run-requires-clause-ready : goal.label_run-requires-clause-ready
label_run-requires-clause-ready g c = can_begin c.args.search.now c.args.labels.now c.args.room.now c.requires.labels c.requires.some c.requires.room

pub loop-count-init : goal.loop-count-init
loop-count-init g c =
    let a = c.args in
    let s = a.search.now in
    let run = c.label_run.ensures in (
      can_go_on s a.labels.now 0 a.room.now c.label_run.new.labels 1 c.label_run.new.room (can_begin s a.labels.now a.room.now c.requires.labels c.requires.some c.requires.room) run.step,
      run.step.outside,
      run.step.room,
      run.run a.x (omega arith) run.after,
      run.goes_on a.labels.now a.x a.y no_run start (spread_begins (λ p. g.T.PartialEq.eq p s.seed) (ref_grid s.image) a.x a.y s.label c.requires.some (shaped a.labels.now s.shape) (shape_width s.shape) a.room.now c.requires.clear c.requires.fresh),
    )

pub loop-count-preserved : goal.loop-count-preserved
loop-count-preserved g c =
    let a = c.args in
    let s = a.search.now in
    let l = c.loop-count in
    let on = c.spread_run-count in
    let some : l.count ≡ (l.count - 1) + 1 = omega arith in (
      can_go_on s l.labels (l.count - 1) l.room on.new.labels on.result on.new.room (one_taken s l.labels l.count l.room l.invariant.0) on.ensures.step,
      outside_trans (shaped a.labels.now s.shape) (shaped l.labels s.shape) (shaped on.new.labels s.shape) l.invariant.1 on.ensures.step.outside,
      on.ensures.step.room ∙ l.invariant.2,
      label_stays s.label c.requires.some (label_grid s l.labels) (label_grid s on.new.labels) on.ensures.step.adds a.x a.y l.invariant.3,
      on.ensures.goes_on a.labels.now a.x a.y (subst (λ n. IsSpreading s g.T.PartialEq.eq a.x a.y a.labels.now l.labels n l.room no_run) some l.invariant.4),
    )

pub returns-clause-region : goal.returns-clause-region
returns-clause-region g c =
    let a = c.args in
    let s = a.search.now in
    let l = c.loop-count in
    spread_ends (λ p. g.T.PartialEq.eq p s.seed) (ref_grid s.image) a.x a.y s.label c.requires.some (shaped a.labels.now s.shape) (shaped l.labels s.shape) (shape_width s.shape) l.count l.room (omega arith) l.invariant.3 l.invariant.4
