use Rattle.imgref.specs.Lists.{AllFit}
use Rattle.bench_jobs.proofs.scripts.replay_text.Given as goal

abbrev pub invariant-loop : goal.invariant-loop
invariant-loop l = AllFit l.images.items
