-- The cells were read, and written as they become.
use Rattle.std.proofs.Common.{arith}
use Rattle.std.specs.Io.KnownBytes.{Appends}
use Rattle.std.proofs.lemmas.Grind.{common_steps}
use Rattle.devices.specs.Device.{device_of}
use Rattle.devices.specs.Whole.{AppendsBeginning}
use Rattle.frame_formats.specs.Planned.{recipe_of}
use Rattle.frame_runs.specs.Passing.{PassesCells}
use Rattle.frame_runs.specs.Video.{with_head}
use Rattle.frame_requests.specs.declared.fault.RunFault.TheVariants.{Output}
use Rattle.frame_runs.proofs.HandedOn.{handed_on}
use Rattle.frame_runs.proofs.CellsRead.{cells_passed}
use Rattle.frame_runs.proofs.cells.pass_cells.Goals as goal

pub returns-clause-passes : goal.returns-clause-passes
returns-clause-passes g c =
    cells_passed (Appends (g.W.Write.contents (device_of c.args.writer.now)) (g.W.Write.contents (device_of c.write_edited.new.writer)))
    (with_head c.args.head.now (recipe_of c.args.plan.now)) c.args.number c.in_ok-count.count c.take_cells.new.cells.items c.deref_mut.result.now _ _ (c.in_ok-count.ensures.whole (omega arith)).0 c.in_ok-count.ensures.within c.in_ok-count.ensures.bytes c.deref_mut.ensures.value c.in_ok-write_edited.ensures.whole

pub returns-in_err-write_edited-clause-passes : goal.returns-in_err-write_edited-clause-passes
returns-in_err-write_edited-clause-passes g c =
    handed_on (λ r. PassesCells r (with_head c.args.head.now (recipe_of c.args.plan.now)) c.args.number (g.R.Read.remaining (device_of c.args.reader.now)) (g.R.Read.remaining (device_of c.take_cells.new.reader)) (g.W.Write.contents (device_of c.args.writer.now)) (g.W.Write.contents (device_of c.write_edited.new.writer)))
    c.from_residual-in_err-write_edited.result Output c.from_residual-in_err-write_edited.ensures
    (cells_passed (AppendsBeginning (g.W.Write.contents (device_of c.args.writer.now)) (g.W.Write.contents (device_of c.write_edited.new.writer)))
    (with_head c.args.head.now (recipe_of c.args.plan.now)) c.args.number c.in_ok-count.count c.take_cells.new.cells.items c.deref_mut.result.now _ _ (c.in_ok-count.ensures.whole (omega arith)).0 c.in_ok-count.ensures.within c.in_ok-count.ensures.bytes c.deref_mut.ensures.value c.in_err-write_edited.ensures.beginning)

pub returns-then-count-room-clause-passes : goal.returns-then-count-room-clause-passes
returns-then-count-room-clause-passes g c = grind (arith, common_steps)

pub returns-in_err-write_edited-clause-counts : goal.returns-in_err-write_edited-clause-counts
returns-in_err-write_edited-clause-counts g c = grind (arith, common_steps)
