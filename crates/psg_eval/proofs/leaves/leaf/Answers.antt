use Rattle.std.proofs.Common.{sym, subst, ap}
use Rattle.psg_terms.specs.Relations.{IsRelation}
use Rattle.psg_terms.specs.Weight.{PassesLimit}
use Rattle.psg_relation.specs.Choices.{IsOfRow}
use Rattle.psg_eval.specs.declared.summary.SummaryParts.{SummaryParts}
use Rattle.psg_eval.proofs.leaves.leaf.Goals as goal

pub returns-in_ok-new-in-Ok : goal.returns-in_ok-new-in-Ok
returns-in_ok-new-in-Ok c = λ sorts all.
    let e = c.in_ok-new-in-Ok.ensures in (
      ap (λ (s : SummaryParts). s.kind) e,
      ap (λ (s : SummaryParts). s.header) e,
      ap (λ (s : SummaryParts). s.seen) e,
      subst (λ (s : SummaryParts). IsRelation c.args.definition.now.signature sorts (IsOfRow c.args.definition.now.signature c.args.rows.now) s.rel) (sym e) (c.in-Ok.ensures.relation sorts all),
      λ p. c.in-Ok.ensures.within (subst (λ (s : SummaryParts). PassesLimit s.rel) e p),
    )
