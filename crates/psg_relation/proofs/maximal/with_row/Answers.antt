use Rattle.std.proofs.Common.{◌∙◌, sym, subst}
use Rattle.std.proofs.lemmas.Bool.{false≢true}
use Rattle.psg_relation.specs.Sifted.{IsCovered}
use Rattle.psg_relation.proofs.Growing.{grown_plain}
use Rattle.psg_relation.proofs.maximal.with_row.Goals as goal

pub returns-then-is_closed-clause-grown : goal.returns-then-is_closed-clause-grown
returns-then-is_closed-clause-grown c =
    let kept = c.args.kept.rows.items in
    grown_plain kept c.args.row c.in_ok-more.more.rows.items (c.is_closed.ensures.0 c.if-is_closed.true)
    (λ h. false≢true (sym c.if-branch.false ∙ c.in_ok-is_held.ensures.1
    (subst (λ ks. IsCovered ks c.terms.result.now) (sym c.as_slice.ensures.value) (subst (IsCovered kept) (sym c.terms.ensures) h))))
    c.in_ok-more.ensures.rows

pub with_general-requires-clause-apart : goal.with_general-requires-clause-apart
with_general-requires-clause-apart c =
    λ h. false≢true (sym c.if-branch.false ∙ c.in_ok-is_held.ensures.1
    (subst (λ ks. IsCovered ks c.terms.result.now) (sym c.as_slice.ensures.value) (subst (IsCovered c.args.kept.rows.items) (sym c.terms.ensures) h)))
