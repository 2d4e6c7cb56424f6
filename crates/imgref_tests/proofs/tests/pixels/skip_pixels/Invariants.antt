use Rattle.std.proofs.Common.{◌≡◌, drop}
use Rattle.imgref.specs.Pixels.{copies_left}
use Rattle.imgref_tests.proofs.tests.pixels.skip_pixels.Given as goal

abbrev pub invariant-loop : goal.invariant-loop
invariant-loop l = copies_left l.pixels ≡ drop l.counter (copies_left l.fn.pixels)
