use Rattle.std.proofs.Common.{◌≡◌, List, drop, Option, Some, None, sym, ap, ◌∙◌, drop-drop}
use Rattle.std.specs.Iterator.{YieldsFirst}
use Rattle.imgref.specs.Pixels.{copies_left}
use Rattle.imgref_tests.proofs.tests.pixels.skip_pixels.Goals as goal

-- a step leaves all but the first
after_step : {S A : Type 0} (rest : S → List A) (s : S) (r : Option A) (t : S) → YieldsFirst rest s r t → rest t ≡ drop 1 (rest s)
after_step rest s None t h = h.1 ∙ sym (ap (drop 1) h.0)
after_step rest s (Some x) t h = sym (ap (drop 1) h)

pub loop-preserved : goal.loop-preserved
loop-preserved c =
    after_step copies_left c.loop.pixels c.next.result c.next.new.self c.next.ensures.steps
    ∙ ap (drop 1) c.loop.invariant
    ∙ drop-drop 1 c.loop.counter (copies_left c.args.pixels.now)
