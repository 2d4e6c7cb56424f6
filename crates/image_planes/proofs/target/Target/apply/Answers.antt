-- The plane that is put into its border ends at a whole pixel.
use Rattle.std.proofs.Common.{◌≡◌, ◌+◌, ◌*◌, ◌%◌, length, take, arith, ap, ap₂, ◌∙◌, length-take, rules}
use Rattle.image_model.specs.Windows as model
use Rattle.image_planes.proofs.Parts.{ends_whole, plane_numbers}
use Rattle.image_planes.proofs.target.Target.apply.Goals as goal

pub pad_plane-requires-clause-whole : goal.pad_plane-requires-clause-whole
pad_plane-requires-clause-whole c =
    let t = c.args.self.now in
    let n = plane_numbers t.size t.width t.height (search rules) in
    let place = c.new-place.result in
    let is = c.in_bytes-place.ensures.window in
    let long : length c.in-Pad.value ≡ 8 = search rules in
    let many : length (take t.size c.in-Pad.value) ≡ t.size = omega (arith, length-take t.size c.in-Pad.value, n.1, long) in
    let left : c.in_bytes-place.result.left ≡ t.size * place.left = ap (λ (w : model.Window). w.left) is in
    let width : c.in_bytes-place.result.width ≡ t.size * place.width = ap (λ (w : model.Window). w.width) is in
    ap₂ (λ k m. k % m) (ap₂ (λ a b. a + b) left width) many ∙ ends_whole t.size place.left place.width n.0
