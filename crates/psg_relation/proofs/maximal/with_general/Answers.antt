use Rattle.std.proofs.Common.{subst}
use Rattle.psg_relation.specs.Sifted.{HoldsNone}
use Rattle.psg_relation.proofs.Growing.{grown_last}
use Rattle.psg_relation.proofs.maximal.with_general.Goals as goal

pub returns-then-branch-clause-grown : goal.returns-then-branch-clause-grown
returns-then-branch-clause-grown c =
    let kept = c.args.kept.rows.items in
    grown_last kept c.args.row c.in_ok-more.more.rows.items
    (subst (λ r. HoldsNone r kept) c.terms.ensures (subst (HoldsNone c.terms.result.now) c.as_slice.ensures.value (c.in_ok-holds_none.ensures c.if-branch.true)))
    c.requires.apart c.in_ok-more.ensures.rows
