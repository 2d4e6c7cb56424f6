-- After four shuffles each cell comes from the place across.
use Rattle.std.proofs.Common.{rules, ◌∙◌}
use Rattle.image_turns.proofs.Shuffles.{block_transposed}
use Rattle.image_turns.proofs.blocks.transpose_block.Goals as goal

pub returns-clause-grid : goal.returns-clause-grid
returns-clause-grid g c = block_transposed c.args.block.now c.shuffle-4.new.cells (c.shuffle-4.ensures.as_many ∙ c.shuffle-2.ensures.as_many ∙ c.requires.many) (search rules)
