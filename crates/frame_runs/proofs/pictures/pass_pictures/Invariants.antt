use Rattle.std.proofs.Common.{◌≡◌, [], IfSome}
use Rattle.std.specs.Prelude.{vec_capacity}
use Rattle.frame_runs.specs.Request.{edits_of}
use Rattle.frame_runs.specs.Kept.{IsKept, PassedLast, kept_picture}
use Rattle.frame_runs.specs.Pictures.{behind_letter}
use Rattle.frame_runs.specs.Seen.{SeesPictures}
use Rattle.frame_requests.specs.Seen.{Sees}
use Rattle.devices.specs.Device.{device_of, failures_of}
use Rattle.frame_runs.proofs.pictures.pass_pictures.Given as goal

-- so many pictures were read, and written as they become; the plan is that for the last of them
abbrev pub invariant-loop-number : goal.invariant-loop-number
invariant-loop-number g l = record {
  passed : PassedLast l.fn.request.limit (edits_of l.fn.request) (kept_picture l.kept) l.number (behind_letter (g.R.Read.remaining (device_of l.initial.reader))) (behind_letter (g.R.Read.remaining (device_of l.reader))) (g.W.Write.contents (device_of l.initial.writer)) (g.W.Write.contents (device_of l.writer));
  kept : IfSome l.kept (IsKept (edits_of l.fn.request) l.fn.request.limit (vec_capacity l.cells) (vec_capacity l.other));
  read : failures_of l.reader ≡ failures_of l.initial.reader;
  written : failures_of l.writer ≡ failures_of l.initial.writer;
  seen : Sees (edits_of l.fn.request).steps [] l.initial.seen → SeesPictures (edits_of l.fn.request) l.number (behind_letter (g.R.Read.remaining (device_of l.initial.reader))) (behind_letter (g.R.Read.remaining (device_of l.reader))) l.seen;
}
