use Rattle.std.proofs.Common.{ap, subst, ◌∙◌}
use Rattle.psg_terms.specs.Declarations.{sort_names, AreSpelled}
use Rattle.psg_terms.specs.Numbered.{places}
use Rattle.psg_terms.specs.Kept.{symbols_of}
use Rattle.psg_terms.proofs.declare.spell.Goals as goal

pub returns-clause-ok : goal.returns-clause-ok
returns-clause-ok c = record {
  sorts = c.in_ok-names.ensures;
  symbols = subst (λ cs. AreSpelled (sort_names c.args.sorts.now) cs (symbols_of c.in_ok-declared.declared.items)) (ap places c.as_slice-2.ensures.value ∙ c.in_ok-placed.ensures)
      (c.in_ok-declared.ensures.ok (sort_names c.args.sorts.now) c.in_ok-distinct.ensures.known);
}
