-- Each block is written over the other.
use Rattle.std.proofs.Common.{◌≡◌, ℕ, ◌+◌, ◌-◌, List, length, take, drop, refl, sym, subst, ap, ◌∙◌, arith}
use Rattle.std.proofs.lemmas.List.{length-replicate}
use Rattle.std.proofs.lemmas.Grind.{common_steps}
use Rattle.image_writes.specs.Gathered.{AreGathered, mirrored_place}
use Rattle.image_turns.proofs.Crossing.{HasStretch, gathered_stretch, blocks_crossed, mirrored_front, mirrored_rear, mirrored_stays}
use Rattle.image_turns.proofs.flipping.exchange_blocks.Goals as goal

-- a block that was copied from the last cell of a stretch on
turned : {T : Type 0} {old copied block : List T} (start n many : ℕ) → many ≡ n → length copied ≡ many → AreGathered (λ k. many - 1 - k) (take (start + n - start) (drop start old)) copied → block ≡ copied → HasStretch (λ j. n - 1 - j) old start n block
turned {old = old} {copied} start n many is_many long taken is =
    subst (HasStretch (λ j. n - 1 - j) old start n) (sym is)
    (gathered_stretch start (start + n - start) n (omega arith) (long ∙ is_many) (λ j below. omega (arith, below)) (subst (λ m. AreGathered (λ k. m - 1 - k) (take (start + n - start) (drop start old)) copied) is_many taken))

pub returns-clause-crossed : goal.returns-clause-crossed
returns-clause-crossed g c =
    let n = g.row.N in
    let done = c.args.done in
    let len : ℕ = length c.args.row.now in
    let last : ℕ = len - done - n in
    blocks_crossed (mirrored_place len done (done + n)) done n last c.requires.inside refl
    (turned done n _ (ap length c.as_mut_slice.ensures.value ∙ length-replicate n _) c.copy_back.ensures.as_many c.copy_back.ensures.taken (c.copy_from_slice-2.ensures.after ∙ c.as_slice-2.ensures))
    (turned last n _ (ap length c.as_mut_slice-2.ensures.value ∙ length-replicate n _) c.copy_back-2.ensures.as_many c.copy_back-2.ensures.taken (c.copy_from_slice.ensures.after ∙ c.as_slice.ensures))
    (λ j. mirrored_front len done n last j refl c.requires.inside)
    (λ j. mirrored_rear len done n last j refl c.requires.inside)
    (λ k. mirrored_stays len done n last k refl c.requires.inside)

pub as_slice-requires : goal.as_slice-requires
as_slice-requires g c = grind (arith, common_steps)

pub copy_back-requires : goal.copy_back-requires
copy_back-requires g c = grind (arith, common_steps)

pub copy_back-requires-2 : goal.copy_back-requires-2
copy_back-requires-2 g c = grind (arith, common_steps)

pub copy_from_slice-requires : goal.copy_from_slice-requires
copy_from_slice-requires g c = grind (arith, common_steps)
