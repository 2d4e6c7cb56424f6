-- One pair of blocks more, and all pairs.
use Rattle.std.proofs.Common.{◌≡◌, ◌+◌, ◌≤◌, ◌⊎◌, refl, subst, arith, inl, inr}
use Rattle.image_shape.specs.Shape.{shaped_grid}
use Rattle.image_turns.specs.Blocks.{pixels_crossed_at}
use Rattle.image_writes.specs.Written.{Becomes}
use Rattle.image_turns.proofs.BlockPairs.{one_pair_more, all_pairs, row_begins, row_crossed}
use Rattle.image_turns.proofs.block_pairs.cross_pairs.Goals as goal

pub loop-left-preserved : goal.loop-left-preserved
loop-left-preserved g c =
    let s = c.args.shape in
    let n = g.row.N in
    let top = c.loop-top.top in
    let left = c.loop-left.left in
    let height = c.min-height.result in
    let width = c.min-width.result in
    let inv = c.loop-left.invariant in
    let on : ((left ≡ top) × (width ≡ height)) ⊎ (top + height ≤ left) = elim inv.1 [
      | inl same ↦ inl (same, omega (arith, same, c.min-width.ensures, c.min-height.ensures))
      | inr right ↦ inr right
    ] in
    let next : top + height ≤ left + width = elim on [ inl same ↦ omega (arith, same) | inr right ↦ omega (arith, right) ] in
    let crossed = subst (Becomes s c.loop-left.cells c.cross_pair.new.cells)
    (λ i. pixels_crossed_at n (c.new-window.ensures i).left (c.new-window.ensures i).top (c.new-window.ensures i).width (c.new-window.ensures i).height (shaped_grid c.loop-left.cells s)) c.cross_pair.ensures.crossed in (
      one_pair_more n c.requires.image.some s c.requires.image.square c.args.cells.now c.loop-left.cells top (top + height) left inv.0 width height refl on c.cross_pair.new.cells crossed,
      inr next,
      omega (arith, c.min-width.ensures, c.loop-left-test.true, c.height-side.ensures.value),
      c.cross_pair.ensures.blocks,
    )

pub returns : goal.returns
returns g c =
    all_pairs g.row.N c.requires.image.some c.args.shape c.requires.image.square c.args.cells.now c.loop-top.cells c.loop-top.top c.loop-top.top 0 c.loop-top.invariant.0 refl refl (omega (arith, c.loop-top-test.false, c.height-side.ensures.value))

pub loop-top-preserved : goal.loop-top-preserved
loop-top-preserved g c =
    let top = c.loop-top.top in
    let inv = c.loop-left.invariant in (
      row_crossed g.row.N c.requires.image.some c.args.shape c.requires.image.square c.args.cells.now c.loop-left.cells top (top + c.min-height.result) c.loop-left.left inv.0 (omega (arith, c.loop-left-test.false, c.height-side.ensures.value)) (omega arith),
      omega (arith, c.min-height.ensures, c.loop-top-test.true, c.height-side.ensures.value),
      inv.3,
    )

pub loop-left-init : goal.loop-left-init
loop-left-init g c =
    let top = c.loop-top.top in
    let inv = c.loop-top.invariant in
    (row_begins g.row.N c.requires.image.some c.args.shape c.requires.image.square c.args.cells.now c.loop-top.cells top top 0 inv.0 (top + c.min-height.result) refl refl, inl refl, inv.1, inv.2)
