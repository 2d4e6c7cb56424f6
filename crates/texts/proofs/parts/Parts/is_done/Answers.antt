use Rattle.texts.proofs.PartsLeft.{is_done_tells}
use Rattle.texts.proofs.parts.Parts.is_done.Goals as goal

pub returns : goal.returns
returns c = is_done_tells c.args.self.now.separator c.args.self.now.rest c.is_none.result c.is_none.ensures
