use Rattle.std.proofs.Common.{◌≡◌, ◌+◌, ◌∷◌, ◌++◌, [], map, take, set, ap, sym, ◌∙◌, subst, arith}
use Rattle.std.proofs.lemmas.List.{take_more, take_more_set}
use Rattle.imgref.specs.Image.{vec_layout}
use Rattle.imgref_replay.specs.Run.{IsRun}
use Rattle.imgref_replay.proofs.run.replay_into.Goals as goal

pub replay_next-requires : goal.replay_next-requires
replay_next-requires g c = c.loop-i.invariant.all_fit

pub loop-i-preserved : goal.loop-i-preserved
loop-i-preserved g c =
    let i = c.loop-i.i in
    let command = c.index-commands-i.result in
    let olds = map vec_layout c.args.images.now in
    let news = map vec_layout c.replay_next.new.images in
    let commands : take (i + 1) c.args.commands.now ≡ take i c.args.commands.now ++ command ∷ [] =
    take_more c.args.commands.now i command c.loop-i-test.true ∙ ap (λ x. take i c.args.commands.now ++ x ∷ []) (sym c.index-commands-i.is) in
    let replies = take_more_set c.loop-i.replies i c.replay_next.result (omega arith) in
    subst (λ cs. IsRun g.T.PartialEq.eq cs olds news (take (i + 1) (set c.loop-i.replies i c.replay_next.result))) (sym commands)
    (subst (IsRun g.T.PartialEq.eq (take i c.args.commands.now ++ command ∷ []) olds news) (sym replies)
    (c.replay_next.ensures.more (take i c.args.commands.now) olds (take i c.loop-i.replies) c.loop-i.invariant))
