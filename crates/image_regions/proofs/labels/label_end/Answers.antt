use Rattle.std.proofs.Common.{arith, rules, ⊎_elim}
use Rattle.std.proofs.lemmas.Bool.{cases_lt}
use Rattle.image_model.proofs.Reading.{is_a_place}
use Rattle.imgref.specs.Words.{shape_width, shaped}
use Rattle.image_regions.proofs.labels.label_end.Goals as goal

pub returns-clause-run : goal.returns-clause-run
returns-clause-run c = record {
  after = c.end_of.ensures.after;
  along = λ u p q. let e = c.end_of.ensures.along u p q in search rules;
  ends = ⊎_elim
      (λ inside. let e = c.end_of.ensures.ends inside in search rules)
      (λ past. λ has. let place = is_a_place (shaped c.args.labels.now c.args.shape) c.end_of.result c.args.y c.args.label has in omega (arith, past, place))
      (cases_lt c.end_of.result (shape_width c.args.shape));
}
