use Rattle.std.proofs.Common.{◌≤◌, not, nat_eq, arith}
use Rattle.row_mover.proofs.Stretches.{none_copied, block_more, all_copied}
use Rattle.row_mover.proofs.blocks.copy_over.Goals as goal

pub loop-left-init : goal.loop-left-init
loop-left-init g c = (omega arith, none_copied (not (nat_eq g.row.UP 0)) c.args.cells.now c.args.start c.args.len c.args.target c.requires.goes)

pub loop-left-preserved : goal.loop-left-preserved
loop-left-preserved g c =
    let a = c.args in
    let left = c.loop-left.left in
    let enough : 32 ≤ left = omega (arith, c.loop-left-test.true) in (
      omega (arith, c.loop-left.invariant.0, enough),
      rw (c.copy_block_within.ensures, c.block_at-at.ensures.at, c.loop-left.invariant.1)
          (block_more (not (nat_eq g.row.UP 0)) a.cells.now a.start a.len a.target left 32 c.requires.goes enough c.loop-left.invariant.0),
    )

pub returns : goal.returns
returns g c =
    let a = c.args in
    rw (c.copy_few.ensures, c.block_at-at-2.ensures.at, c.loop-left.invariant.1)
    (all_copied (not (nat_eq g.row.UP 0)) a.cells.now a.start a.len a.target c.loop-left.left c.requires.goes c.loop-left.invariant.0)
