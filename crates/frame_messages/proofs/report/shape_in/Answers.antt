-- The last shape that begins up to the frame is that of the frame.
use Rattle.std.proofs.Common.{nat_le, rules, arith}
use Rattle.std.proofs.lemmas.List.Sorted.{IsPartitionPoint-from_clause}
use Rattle.frame_messages.proofs.FrameShape.{none_begun, one_begun, parted}
use Rattle.frame_messages.proofs.report.shape_in.Goals as goal

pub returns-then-count-eq0 : goal.returns-then-count-eq0
returns-then-count-eq0 c most up =
    none_begun c.args.shapes.now c.args.frame most up c.partition_point-count.result c.partition_point-count.ensures.bound (IsPartitionPoint-from_clause (λ s. nat_le s.0 c.args.frame) _ _ c.partition_point-count.ensures.partitioned (parted c.args.shapes.now c.args.frame most up) (λ a r f k. search rules)) (omega arith)

pub returns : goal.returns
returns c most up =
    one_begun c.args.shapes.now c.args.frame most up c.partition_point-count.result c.partition_point-count.ensures.bound (IsPartitionPoint-from_clause (λ s. nat_le s.0 c.args.frame) _ _ c.partition_point-count.ensures.partitioned (parted c.args.shapes.now c.args.frame most up) (λ a r f k. search rules)) _ (omega arith)
