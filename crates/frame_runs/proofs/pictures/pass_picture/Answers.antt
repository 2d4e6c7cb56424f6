-- The head was read, and then the cells after it.
use Rattle.std.proofs.Common.{Ok, Err, arith, sym, subst, refl, inl}
use Rattle.devices.specs.Device.{device_of}
use Rattle.frame_formats.specs.Planned.{recipe_of}
use Rattle.frame_runs.specs.Request.{edits_of}
use Rattle.frame_runs.specs.Kept.{kept_picture, picture_in, PictureStops}
use Rattle.frame_runs.specs.Passing.{PassesPicture, PictureCut}
use Rattle.frame_requests.specs.declared.fault.RunFault.{RunFault}
use Rattle.frame_runs.specs.Pictures.{IsHead, behind_letter}
use Rattle.frame_runs.specs.Seen.{SeesNext, SeesPicture}
use Rattle.frame_runs.proofs.HandedOn.{handed_on}
use Rattle.frame_runs.proofs.Heads.{no_next}
use Rattle.frame_runs.proofs.Rounds.{picture_made, not_planned, new_head}
use Rattle.frame_runs.proofs.Seeing.{cells_left, head_read, unplanned}
use Rattle.frame_runs.proofs.pictures.pass_picture.Goals as goal

pub returns-in_default-clause-passes : goal.returns-in_default-clause-passes
returns-in_default-clause-passes g c = (refl, no_next (edits_of c.args.request) c.args.number (omega arith) (g.R.Read.remaining (device_of c.args.reader.now)) (rw c.in_default.is at c.in_ok-picture.ensures.head), refl)

-- the reader failed within the head
pub returns-in_err-picture-clause-passes : goal.returns-in_err-picture-clause-passes
returns-in_err-picture-clause-passes g c =
    let w = g.W.Write.contents (device_of c.args.writer.now) in
    let old = behind_letter (g.R.Read.remaining (device_of c.args.reader.now)) in
    let new = g.R.Read.remaining (device_of c.read_head.new.reader) in
    let head = c.in_err-picture.ensures.head in
    let cut : PictureCut (edits_of c.args.request) old new = record { bytes = head.1.bytes; read = head.1.read; are = (head.1.are.0, inl head.1.are.1) } in
    handed_on (λ r. PassesPicture (picture_in r) c.args.request.limit (edits_of c.args.request) c.args.number old new w w)
    c.from_residual.result c.in_err-picture.field-0.0 c.from_residual.ensures
    (subst (λ (e : RunFault). PassesPicture (Err e) c.args.request.limit (edits_of c.args.request) c.args.number old new w w) (sym head.0) (cut, refl))

-- the edits don't suit the picture, or there is no memory for its plan
pub returns-in_err-made-clause-passes : goal.returns-in_err-made-clause-passes
returns-in_err-made-clause-passes g c =
    let found = rw c.in-Some.is at c.in_ok-picture.ensures.head in
    let w = g.W.Write.contents (device_of c.args.writer.now) in
    let r1 = behind_letter (g.R.Read.remaining (device_of c.args.reader.now)) in
    handed_on (λ r. PassesPicture (picture_in r) c.args.request.limit (edits_of c.args.request) c.args.number r1 (g.R.Read.remaining (device_of c.read_head.new.reader)) w w)
    c.from_residual-in_err-made.result c.in_err-made.field-0.0 c.from_residual-in_err-made.ensures
    (not_planned c.args.request.limit (edits_of c.args.request) c.args.number c.in-Some.picture found.0 found.1 r1 (g.R.Read.remaining (device_of c.read_head.new.reader)) w found.2 c.in_err-made.field-0.0 c.in_err-made.ensures.fault)

pub returns-in_err-made-clause-stops : goal.returns-in_err-made-clause-stops
returns-in_err-made-clause-stops g c =
    let found = rw c.in-Some.is at c.in_ok-picture.ensures.head in
    handed_on (λ r. PictureStops r (edits_of c.args.request) (kept_picture c.args.kept) (behind_letter (g.R.Read.remaining (device_of c.args.reader.now))) (g.R.Read.remaining (device_of c.read_head.new.reader)))
    c.from_residual-in_err-made.result c.in_err-made.field-0.0 c.from_residual-in_err-made.ensures
    (new_head (edits_of c.args.request) c.in-Some.picture found.0 found.1 _ (behind_letter (g.R.Read.remaining (device_of c.args.reader.now))) (g.R.Read.remaining (device_of c.read_head.new.reader)) found.2 c.in_err-made.field-0.0 c.in_err-made.ensures.stops)

-- the cells were passed on
pub returns-clause-passes : goal.returns-clause-passes
returns-clause-passes g c =
    let found = rw c.in-Some.is at c.in_ok-picture.ensures.head in
    let made = c.in_ok-made.made in
    picture_made c.heads_end_themselves.ensures.apart c.heads_end_themselves.ensures.begins c.args.request.limit (edits_of c.args.request) c.args.number made.picture (recipe_of made.plan) found.0 (subst (IsHead found.0) (sym c.in_ok-made.ensures.picture) found.1) c.in_ok-made.ensures.kept.plan c.in_ok-made.ensures.kept.within _ _ _ _ _ found.2 (Ok tt)
    (rw (sym c.head-head.ensures) c.in_ok-pass_cells.ensures.passes)

pub returns-in_err-pass_cells-clause-passes : goal.returns-in_err-pass_cells-clause-passes
returns-in_err-pass_cells-clause-passes g c =
    let found = rw c.in-Some.is at c.in_ok-picture.ensures.head in
    let made = c.in_ok-made.made in
    let kept = handed_on (λ r. PassesPicture (picture_in r) c.args.request.limit (edits_of c.args.request) c.args.number (behind_letter (g.R.Read.remaining (device_of c.args.reader.now))) (g.R.Read.remaining (device_of c.pass_cells.new.reader)) (g.W.Write.contents (device_of c.args.writer.now)) (g.W.Write.contents (device_of c.pass_cells.new.writer))) in
    kept c.from_residual-in_err-pass_cells.result c.in_err-pass_cells.field-0.0 c.from_residual-in_err-pass_cells.ensures
    (picture_made c.heads_end_themselves.ensures.apart c.heads_end_themselves.ensures.begins c.args.request.limit (edits_of c.args.request) c.args.number made.picture (recipe_of made.plan) found.0 (subst (IsHead found.0) (sym c.in_ok-made.ensures.picture) found.1) c.in_ok-made.ensures.kept.plan c.in_ok-made.ensures.kept.within _ _ _ _ _ found.2 (Err c.in_err-pass_cells.field-0.0)
    (rw (sym c.head-head.ensures) c.in_err-pass_cells.ensures.passes))

-- ---- the head was seen

pub returns-clause-seen : goal.returns-clause-seen
returns-clause-seen g c shapes sees last = subst (SeesNext (edits_of c.args.request) c.args.number shapes c.see.new.self) (sym c.in_ok-made.ensures.picture) (c.see.ensures.sees shapes sees last)

pub returns-in_default-clause-seen : goal.returns-in_default-clause-seen
returns-in_default-clause-seen g c = inl (record { some = omega arith; none = rw c.in_default.is at c.in_ok-picture.ensures.head; same = refl })

pub returns-in_err-made-clause-seen : goal.returns-in_err-made-clause-seen
returns-in_err-made-clause-seen g c =
    let found = rw c.in-Some.is at c.in_ok-picture.ensures.head in
    let input = behind_letter (g.R.Read.remaining (device_of c.args.reader.now)) in
    handed_on (λ r. SeesPicture (picture_in r) (edits_of c.args.request) c.args.number input c.args.seen.now c.see.new.self)
    c.from_residual-in_err-made.result c.in_err-made.field-0.0 c.from_residual-in_err-made.ensures
    (unplanned (edits_of c.args.request) c.args.number c.in-Some.picture input c.args.seen.now c.see.new.self
    (record { next = head_read c.in-Some.picture (g.R.Read.remaining (device_of c.args.reader.now)) (g.R.Read.remaining (device_of c.read_head.new.reader)) found; seen = c.see.ensures.shape; sees = λ shapes sees last. c.see.ensures.sees shapes sees last })
    c.in_err-made.field-0.0 c.in_err-made.ensures.fault)

pub returns-in_err-pass_cells-clause-seen : goal.returns-in_err-pass_cells-clause-seen
returns-in_err-pass_cells-clause-seen g c =
    let found = rw c.in-Some.is at c.in_ok-picture.ensures.head in
    let input = behind_letter (g.R.Read.remaining (device_of c.args.reader.now)) in
    handed_on (λ r. SeesPicture (picture_in r) (edits_of c.args.request) c.args.number input c.args.seen.now c.see.new.self)
    c.from_residual-in_err-pass_cells.result c.in_err-pass_cells.field-0.0 c.from_residual-in_err-pass_cells.ensures
    (cells_left (edits_of c.args.request) c.args.number c.in-Some.picture input c.args.seen.now c.see.new.self
    (record { next = head_read c.in-Some.picture (g.R.Read.remaining (device_of c.args.reader.now)) (g.R.Read.remaining (device_of c.read_head.new.reader)) found; seen = c.see.ensures.shape; sees = λ shapes sees last. c.see.ensures.sees shapes sees last })
    c.in_err-pass_cells.field-0.0 _ _ _ _ _ _ c.in_err-pass_cells.ensures.passes)
