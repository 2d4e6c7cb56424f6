use Rattle.std.proofs.Common.{sym, ◌∙◌, arith}
use Rattle.imgref_replay.proofs.Paths.{stops, goes_on}
use Rattle.imgref_replay.proofs.path.path_window.Goals as goal

pub returns-then-not-is_inside-clause-outside : goal.returns-then-not-is_inside-clause-outside
returns-then-not-is_inside-clause-outside c = grind (arith, stops)

pub loop-index-preserved : goal.loop-index-preserved
loop-index-preserved c =
    goes_on c.args.width c.args.height c.args.path.now c.loop-index.index c.loop-index.found _ c.loop-index-test.true c.loop-index.invariant _ (sym c.is_inside.ensures ∙ c.if-not-is_inside.false) c.nested-found.ensures
