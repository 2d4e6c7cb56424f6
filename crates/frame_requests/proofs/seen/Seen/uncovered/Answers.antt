-- The first frame that is known, or else the first of the last shape.
use Rattle.std.proofs.Common.{sym, subst, ◌∙◌}
use Rattle.frame_requests.specs.Seen.{FirstFound}
use Rattle.frame_requests.proofs.FirstUncovered.{found_first, found_none, is_stretch, no_stretch, other_told, told_first, told_none}
use Rattle.frame_requests.proofs.seen.Seen.uncovered.Goals as goal

pub returns-in_err-uncovered-clause-other : goal.returns-in_err-uncovered-clause-other
returns-in_err-uncovered-clause-other c steps shapes sees order not = other_told steps shapes c.args.self.now sees c.args.number c.args.count order (sym c.of.ensures ∙ c.in_err-uncovered.was)

pub returns-in_err-stretch-in-None-clause-none : goal.returns-in_err-stretch-in-None-clause-none
returns-in_err-stretch-in-None-clause-none c steps shapes sees there none told =
    let seen = c.args.self.now in
    told_none steps shapes seen sees c.args.number c.args.edit.now c.args.count there (sym c.of.ensures ∙ rw (sym c.in-None.is) c.in_ok-uncovered.was) (no_stretch seen.shape seen.first c.args.count (sym c.stretch.ensures ∙ c.in_err-stretch-in-None.was))

pub returns-in-Some-clause-found : goal.returns-in-Some-clause-found
returns-in-Some-clause-found c steps shapes sees there order = told_first steps shapes c.args.self.now sees c.args.number c.args.edit.now c.args.count c.in-Some.uncovered there order (sym c.of.ensures ∙ rw (sym c.in-Some.is) c.in_ok-uncovered.was)

pub returns-in_ok-stretch-in-None-clause-found : goal.returns-in_ok-stretch-in-None-clause-found
returns-in_ok-stretch-in-None-clause-found c steps shapes sees there order =
    let seen = c.args.self.now in
    let stretch = c.in_ok-stretch-in-None.field-0 in
    found_first steps shapes seen sees c.args.number c.args.edit.now there (sym c.of.ensures ∙ rw (sym c.in-None.is) c.in_ok-uncovered.was) c.args.count stretch (is_stretch seen.shape seen.first c.args.count stretch (sym c.stretch.ensures ∙ c.in_ok-stretch-in-None.was)) order c.found.result c.found.ensures

pub returns-in_ok-stretch-in-None-clause-none : goal.returns-in_ok-stretch-in-None-clause-none
returns-in_ok-stretch-in-None-clause-none c steps shapes sees there none told =
    let seen = c.args.self.now in
    let stretch = c.in_ok-stretch-in-None.field-0 in
    found_none steps shapes seen sees c.args.number c.args.edit.now there (sym c.of.ensures ∙ rw (sym c.in-None.is) c.in_ok-uncovered.was) c.args.count stretch (is_stretch seen.shape seen.first c.args.count stretch (sym c.stretch.ensures ∙ c.in_ok-stretch-in-None.was)) (subst (FirstFound stretch c.args.edit.now) none c.found.ensures)
