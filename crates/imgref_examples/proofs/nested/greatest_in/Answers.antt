use Rattle.std.proofs.Common.{sym, ◌∙◌}
use Rattle.std.proofs.lemmas.Iterator.Adapters.{option_map_id}
use Rattle.std.proofs.lemmas.Iterator.Consumers.{max_from_yields_List, YieldsList-from_first}
use Rattle.imgref.specs.Pixels.{copies_left}
use Rattle.imgref_examples.proofs.nested.greatest_in.Goals as goal

pub returns : goal.returns
returns c = sym (option_map_id c.max.result) ∙ max_from_yields_List c.pixels.result c.max.result c.max.ensures.ran (YieldsList-from_first (λ x. x) copies_left _ cc)
