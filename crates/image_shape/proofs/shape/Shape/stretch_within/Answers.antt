-- Whole strides are the exact stretch and one row's padding more.
use Rattle.std.proofs.Common.{rules, ◌≡◌, suc, ◌+◌, ◌-◌, ◌*◌, refl, ap, ◌∙◌, mul_comm, mul-suc, arith}
use Rattle.image_shape.proofs.shape.Shape.stretch_within.Goals as goal

pub returns-then-cells-start-clause-value : goal.returns-then-cells-start-clause-value
returns-then-cells-start-clause-value c =
    let s = c.args.self.now in
    let w = c.args.window in
    let own = c.window-own.ensures in
    let exact : c.reach-exact.result ≡ s.stride * (w.height - 1) + w.width = c.reach-exact.ensures.value ∙ rw (own.width, own.height, own.stride) refl in
    let more : w.height ≡ suc (w.height - 1) = omega (arith, c.if-window-eq0-2.false) in
    let whole : s.stride * w.height ≡ s.stride * (w.height - 1) + s.stride = ap (λ n. s.stride * n) more ∙ mul-suc s.stride (w.height - 1) in
    let start : c.cell-start.result ≡ s.stride * w.top + w.left = omega (arith, c.cell-start.ensures.value, mul_comm w.top s.stride) in
    let len : c.reach-exact.result + (s.stride - w.width) ≡ s.stride * w.height = omega (arith, exact, whole, c.requires.inside.0, s.holds_width) in
    rw (start, len) (search rules)
