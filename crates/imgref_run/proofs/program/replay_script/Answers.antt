use Rattle.std.proofs.Common.{◌≡◌, [], ◌∷◌, ◌++◌, map, length, take, drop, ap, sym, subst, ◌∙◌, arith}
use Rattle.std.proofs.lemmas.Grind.{common_steps}
use Rattle.std.proofs.lemmas.List.{map-append}
use Rattle.imgref.specs.Image.{vec_layout}
use Rattle.script_text.specs.Script.{lines_of}
use Rattle.imgref_run.proofs.Replays.{IsSoFar, image_read, command_run}
use Rattle.imgref_run.proofs.program.replay_script.Goals as goal

pub loop-text-preserved-in-Continue-branch-3 : goal.loop-text-preserved-in-Continue-branch-3
loop-text-preserved-in-Continue-branch-3 c =
    let lines = lines_of c.args.bytes.now in
    let images = c.loop-text.images.items in
    let image = c.in-Image.image in
    let found = rw (c.in-Some.is, c.in-Image.is) at c.in_ok-line.ensures.line in
    let reads = rw (c.in-Some.is, c.in-Image.is) at c.in_ok-line.ensures.read in
    let pushed : map vec_layout c.push.new.self.items ≡ map vec_layout images ++ vec_layout image ∷ [] = ap (map vec_layout) c.in_ok-push-in-Image.ensures.items ∙ map-append vec_layout images (image ∷ []) in
    subst (λ ls. IsSoFar lines c.next.new.self ls c.loop-text.text.items) (sym pushed)
    (image_read lines c.loop-text.script c.next.new.self (map vec_layout images) c.loop-text.text.items (vec_layout image) c.loop-text.invariant (reads lines) found.2.in_range.fits)

pub loop-text-preserved : goal.loop-text-preserved
loop-text-preserved c =
    let lines = lines_of c.args.bytes.now in
    let images = c.loop-text.images.items in
    let news = c.replay_next-reply.new.images in
    let reads = rw (c.in-Some.is, c.in-Command.is) at c.in_ok-line.ensures.read in
    let runs = rw c.deref_mut.ensures.value at c.replay_next-reply.ensures.more in
    let same : take c.loop-text.images.len (news ++ drop (length news) images) ≡ news = grind (arith, common_steps) in
    subst (λ is. IsSoFar lines c.next.new.self (map vec_layout is) c.push_reply.new.text.items) (sym same)
    (command_run lines c.loop-text.script c.next.new.self (map vec_layout images) (map vec_layout news) c.loop-text.text.items c.push_reply.new.text.items c.in-Command.command c.replay_next-reply.result c.loop-text.invariant (reads lines) runs c.in_ok-push_reply-in-Command.ensures.text)
