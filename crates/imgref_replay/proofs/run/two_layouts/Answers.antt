use Rattle.std.proofs.Common.{sym, subst}
use Rattle.imgref.specs.Lists.{grids_of}
use Rattle.imgref_replay.specs.Run.{replies_to, after_all}
use Rattle.imgref_replay.specs.Layouts.{GridsAgree, RepliesAgree}
use Rattle.imgref_replay.proofs.Layouts as layouts
use Rattle.imgref_replay.proofs.run.two_layouts.Goals as goal

pub returns-clause-replies_agree : goal.returns-clause-replies_agree
returns-clause-replies_agree g c =
    let eq = g.T.PartialEq.eq in
    let commands = c.args.commands.now in
    subst (λ rs. RepliesAgree eq rs c.replay_into-2.new.replies) (sym c.replay_into.ensures.replies_are)
    (subst (λ qs. RepliesAgree eq (replies_to eq commands (grids_of c.args.a.now)) qs) (sym c.replay_into-2.ensures.replies_are)
    (layouts.replies_agree eq g.met.T.Eq.laws commands _ _ c.requires.agree))

pub returns-clause-grids_agree : goal.returns-clause-grids_agree
returns-clause-grids_agree g c =
    let eq = g.T.PartialEq.eq in
    let commands = c.args.commands.now in
    subst (λ gs. GridsAgree eq gs (grids_of c.replay_into-2.new.images)) (sym c.replay_into.ensures.grids_are)
    (subst (λ hs. GridsAgree eq (after_all commands (grids_of c.args.a.now)) hs) (sym c.replay_into-2.ensures.grids_are)
    (layouts.grids_agree eq g.met.T.Eq.laws commands _ _ c.requires.agree))
