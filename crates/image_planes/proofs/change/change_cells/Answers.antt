-- The rows of a window of pixels have whole samples.
use Rattle.std.proofs.Common.{ℕ, ◌*◌, ◌%◌, ap, sym, ◌∙◌}
use Rattle.std.proofs.lemmas.Nat.{mul-mod_first}
use Rattle.std.proofs.Math.Nat.{mul-mod_left, zero-mul}
use Rattle.image_means.specs.Means.{sample_cells}
use Rattle.image_planes.proofs.change.change_cells.Goals as goal

pub mean_samples-requires-clause-whole : goal.mean_samples-requires-clause-whole
mean_samples-requires-clause-whole c =
    let columns : ℕ = c.in-Mean.window.width in
    let cells : ℕ = sample_cells c.bytes_for-bytes.result in
    ap (λ w. w.width % cells) c.in_bytes-part-in-Mean.ensures.window
    ∙ sym (mul-mod_first c.args.size columns cells)
    ∙ ap (λ n. n * columns % cells) c.bytes_for-bytes.ensures.whole
    ∙ ap (λ n. n % cells) (zero-mul columns ∙ sym (zero-mul cells))
    ∙ mul-mod_left 0 cells
