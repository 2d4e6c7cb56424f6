-- Frame by frame, the lines of those edits that are for it.
use Rattle.std.proofs.Common.{◌≡◌, rules, nat_lt, reverse, List}
use Rattle.std.specs.List.{filter}
use Rattle.std.proofs.lemmas.Fn.{filter_same}
use Rattle.frame_messages.specs.declared.report.Span.{Span}
use Rattle.frame_messages.proofs.BegunSpans.{of_frame, still_standing}
use Rattle.frame_messages.proofs.FrameLines.{frame_passed, frame_written}
use Rattle.frame_messages.proofs.report.write_frames.Goals as goal
use Rattle.frame_messages.proofs.report.write_frames.Goals.{in-Some+in_ok-write_frame, in_default}

pub loop-frame-preserved : goal.loop-frame-preserved
loop-frame-preserved g c =
    let n = c.loop-frame.frame-counter in
    let kept : List Span = c.retain.new.self.items in
    let more : List Span = c.take_begun.new.now.items in
    let retained : kept ≡ filter (λ s. nat_lt n s.end) more = filter_same _ (λ s. nat_lt n s.end) _ (λ x b f' k. search rules) _ _ c.retain.ensures.filtered in
    let stand = c.loop-frame.invariant.standing in
    let take = c.in_ok-rest.ensures in
    record {
      standing = still_standing n c.args.spans.now _ c.in_ok-rest.rest.now _ more kept stand take retained;
      written = λ most up. elim c.match-shape_in.branch [
        | in-Some+in_ok-write_frame w ↦ rw w.writer-is
            (frame_written c.args.later.flips.now c.args.later.framing c.args.spans.now (reverse c.args.shapes.now) n _ _ _ w.in-Some.shape kept (w.in-Some.ensures most up) (of_frame n c.args.spans.now _ c.in_ok-rest.rest.now _ more kept stand take retained c.requires) (c.loop-frame.invariant.written most up) (rw w.deref.ensures.value at w.in_ok-write_frame.ensures))
        | in_default w ↦ rw w.writer-is (frame_passed c.args.later.flips.now c.args.later.framing c.args.spans.now (reverse c.args.shapes.now) n _ _ (w.in_default.ensures most up) (c.loop-frame.invariant.written most up))
      ];
    }
