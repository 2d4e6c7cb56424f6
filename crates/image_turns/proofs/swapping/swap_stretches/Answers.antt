use Rattle.std.proofs.Common.{◌+◌, ◌≤◌, ap, subst, ◌∙◌}
use Rattle.image_turns.proofs.Swaps.{swapped}
use Rattle.image_turns.proofs.swapping.swap_stretches.Goals as goal

pub returns : goal.returns
returns g c =
    let first = c.args.first in
    let second = c.args.second in
    let ends = c.range.ensures.end ∙ ap (λ n. first.start + n) c.requires.same in
    rw (c.swap_with_slice.ensures.after, c.swap_with_slice.ensures.other_after, c.split_at_mut-front.ensures.front, c.split_at_mut-front.ensures.back, c.range.ensures.start, ends)
    (swapped c.args.cells.now first.start second.start second.len (subst (λ n. first.start + n ≤ second.start) c.requires.same c.requires.apart) c.requires.inside)
