-- The rows of a window of pixels have whole samples, and whole pixels.
use Rattle.std.proofs.Common.{ℕ, ◌*◌, ◌%◌, ap, sym, ◌∙◌}
use Rattle.std.proofs.lemmas.Nat.{mul-mod_first}
use Rattle.std.proofs.Math.Nat.{mul-mod_left, mul-mod_right, zero-mul}
use Rattle.image_means.specs.Means.{sample_cells}
use Rattle.image_planes.proofs.change.blur_cells.Goals as goal

pub samples_across-count-requires : goal.samples_across-count-requires
samples_across-count-requires c =
    let columns : ℕ = c.args.window.width in
    let cells : ℕ = sample_cells c.bytes_for-bytes.result in
    record {
      whole = ap (λ w. w.width % cells) c.in_bytes-part.ensures.window
          ∙ sym (mul-mod_first c.args.size columns cells)
          ∙ ap (λ n. n * columns % cells) c.bytes_for-bytes.ensures.whole
          ∙ ap (λ n. n % cells) (zero-mul columns ∙ sym (zero-mul cells))
          ∙ mul-mod_left 0 cells;
    }

pub blur_samples-requires-clause-whole : goal.blur_samples-requires-clause-whole
blur_samples-requires-clause-whole c =
    ap (λ w. w.width % c.args.size) c.in_bytes-part.ensures.window ∙ mul-mod_right c.args.size c.args.window.width
