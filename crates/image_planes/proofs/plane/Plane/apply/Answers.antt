-- The bytes of a plane have no padding, and there is room for its blurs.
use Rattle.std.proofs.Common.{◌*◌, ◌∙◌, ℕ, length, ap, ap₂, rules}
use Rattle.image_planes.proofs.Parts.{dense_fits, plane_pixels}
use Rattle.image_planes.proofs.Rooms.{room_for}
use Rattle.image_shape.specs.Shape.{shape_width}
use Rattle.image_planes.specs.Scratch.{have_room}
use Rattle.image_planes.proofs.plane.Plane.apply.Goals as goal

pub do_blocks-requires-clause-steps : goal.do_blocks-requires-clause-steps
do_blocks-requires-clause-steps c =
    let j = c.args.self.now in
    let s = c.shape.ensures in
    let len : ℕ = length c.args.cells.now in
    let copy : ℕ = length c.args.copy.now in
    let sums : ℕ = length c.args.sums.now in
    record {
      pixels = record {
        fits = dense_fits len (j.size * j.width) j.height _ _ _ c.requires.whole s.width s.height s.stride;
        some = s.some;
        few = s.few;
        whole = s.whole;
      };
      inside = search (rules, plane_pixels);
      room =
          ap (have_room len (shape_width c.shape.result) copy sums) c.deref.ensures.value
          ∙ ap₂ (λ n row. have_room n row copy sums j.steps.items) c.requires.whole s.width
          ∙ room_for (j.size * j.width * j.height) (j.size * j.width) copy sums j.steps.items c.requires.copy c.requires.sums;
    }
