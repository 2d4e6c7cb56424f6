use Rattle.std.proofs.Common.{◌≡◌, ◌+◌, count_by, nat_eq}
use Rattle.image_model.specs.Rows.{pixels}
use Rattle.imgref.specs.Image.{ref_layout}
use Rattle.imgref.specs.Pixels.{copies_left}
use Rattle.imgref_tests.proofs.tests.pixels.count_equal.Given as goal

abbrev pub invariant-loop-pixel : goal.invariant-loop-pixel
invariant-loop-pixel l =
    (goal.iterator-loop-pixel).can_next l.pixel-iterator ×
    (goal.iterator-loop-pixel).is_finite l.pixel-iterator ×
    (l.count + count_by (λ p. nat_eq p l.fn.value) (copies_left l.pixel-iterator) ≡ count_by (λ p. nat_eq p l.fn.value) (pixels (ref_layout l.fn.image)))
