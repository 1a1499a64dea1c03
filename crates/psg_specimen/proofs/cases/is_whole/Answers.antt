use Rattle.std.proofs.Common.{sym, ap, ◌∙◌}
use Rattle.psg_grammar.specs.declared.types.Case.{Case}
use Rattle.psg_specimen.proofs.CaseLaws.{whole}
use Rattle.psg_specimen.proofs.cases.is_whole.Goals as goal

pub returns : goal.returns
returns c =
    let both = whole c.args.cases.now c.args.term.now c.index-cases-0.result c.if-cases-ne1.false c.index-cases-0.is in
    let same = ap (λ (z : Case). z.term) c.index-cases-0.is in
    (λ h. both.0 (same ∙ c.same.ensures.0 h), λ w. c.same.ensures.1 (sym same ∙ both.1 w))
