use Rattle.imgref.specs.Lists.{AllFit}
use Rattle.bench_jobs.proofs.commands.all_images.Given as goal

abbrev pub invariant-loop-number : goal.invariant-loop-number
invariant-loop-number l = AllFit l.images.items
