-- What is known of the frames before the last shape is known of all up to its end.
use Rattle.std.proofs.Common.{sym, ◌∙◌}
use Rattle.frame_requests.proofs.FirstUncovered.{ends, is_stretch, knows_past, no_stretch}
use Rattle.frame_requests.proofs.seen.Seen.end_stretch.Goals as goal

pub returns-in_default-clause-known : goal.returns-in_default-clause-known
returns-in_default-clause-known c shapes last order knows =
    let seen = c.args.self.now in
    let none = no_stretch seen.shape seen.first c.args.end (sym c.stretch.ensures ∙ c.in_default.is) in
    knows_past seen.known c.args.steps.now shapes seen.first c.args.end (λ n from. last n from ∙ none) order knows

pub returns-clause-known : goal.returns-clause-known
returns-clause-known c shapes last order knows =
    let seen = c.args.self.now in
    ends shapes seen last c.args.end c.in-Some.stretch (is_stretch seen.shape seen.first c.args.end c.in-Some.stretch (sym c.stretch.ensures ∙ c.in-Some.is)) seen.known c.end.new.self c.args.steps.now c.end.ensures order knows
