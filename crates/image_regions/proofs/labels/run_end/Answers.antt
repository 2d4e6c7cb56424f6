use Rattle.std.proofs.Common.{inl, rules, sym, ◌∙◌, Some, true, false, ◌≡◌, ⊎_elim}
use Rattle.std.proofs.lemmas.Bool.{cases_lt}
use Rattle.imgref.specs.Words.{ref_grid, shape_width, shaped}
use Rattle.image_regions.specs.Runs.{open_places}
use Rattle.image_regions.proofs.Runs.{outside_closed}
use Rattle.image_regions.proofs.labels.run_end.Goals as goal

pub returns-clause-run : goal.returns-clause-run
returns-clause-run g c =
    let s = c.args.search.now in
    record {
      after = c.end_of.ensures.after;
      along = λ u p q. let e = c.end_of.ensures.along u p q in search rules;
      ends = ⊎_elim
          (λ inside.
          let e = c.end_of.ensures.ends inside in
          let shows : (open_places s g.T.PartialEq.eq c.args.labels.now).pixel c.end_of.result c.args.y ≡ Some false = search rules in
          λ has. let both : Some false ≡ Some true = sym shows ∙ has in cc both)
          (λ past. outside_closed (λ p. g.T.PartialEq.eq p s.seed) (ref_grid s.image) (shaped c.args.labels.now s.shape) _ c.args.y (inl past))
          (cases_lt c.end_of.result (shape_width s.shape));
    }
