-- Each block is written over the other.
use Rattle.std.proofs.Common.{ℕ, ◌+◌, ◌-◌, length, refl, arith}
use Rattle.image_turns.specs.Triples.{mirrored_triple}
use Rattle.image_turns.proofs.Crossing.{blocks_crossed}
use Rattle.image_turns.proofs.TriplePlaces.{triple_read, triple_front, triple_rear, triple_stays}
use Rattle.image_turns.proofs.triples.cross_triples.Goals as goal

pub returns-clause-crossed : goal.returns-clause-crossed
returns-clause-crossed g c =
    let r = c.requires in
    let len : ℕ = length c.args.row.now in
    let last : ℕ = len - c.args.done - g.row.W in
    blocks_crossed (mirrored_triple len c.args.done (c.args.done + g.row.W)) c.args.done g.row.W last r.inside refl
    (triple_read c.args.done (c.args.done + g.row.W - c.args.done) g.row.W (omega arith) r.whole c.read_part.ensures c.reversed_part-front.ensures.as_many c.reversed_part-front.ensures.turned c.write_part-2.ensures)
    (triple_read last (last + g.row.W - last) g.row.W (omega arith) r.whole c.read_part-2.ensures c.reversed_part-back.ensures.as_many c.reversed_part-back.ensures.turned c.write_part.ensures)
    (λ j. triple_front len c.args.done g.row.W last j r.pixels r.begun r.whole refl r.inside)
    (λ j. triple_rear len c.args.done g.row.W last j r.pixels r.begun r.whole refl r.inside)
    (λ k. triple_stays len c.args.done g.row.W last k refl r.inside)
