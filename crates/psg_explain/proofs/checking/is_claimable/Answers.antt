use Rattle.std.proofs.Common.{sym, subst, ◌∙◌}
use Rattle.psg_terms.specs.Canonical.{IsCanonical}
use Rattle.psg_explain.proofs.SortLaws.{same_instances}
use Rattle.psg_explain.proofs.UnderLaws.{told, unmade}
use Rattle.psg_explain.proofs.checking.is_claimable.Goals as goal

pub returns-then-not-sorted : goal.returns-then-not-sorted
returns-then-not-sorted c = unmade (λ (p, h). told c.if-not-sorted.true (c.have_sorts-sorted.ensures.1 h))

pub canonical-requires : goal.canonical-requires
canonical-requires c = (_, c.have_sorts-sorted.ensures.0 c.if-not-sorted.false)

pub returns : goal.returns
returns c =
    let h = c.have_sorts-sorted.ensures.0 c.if-not-sorted.false in (
      (λ t. (subst (IsCanonical c.args.sig.now) (sym (c.same_all-same.ensures.0 t ∙ c.as_slice.ensures.value)) c.in_ok-numbered.ensures.canonical, h)),
      (λ (p, k). c.same_all-same.ensures.1 (c.in_ok-numbered.ensures.only c.args.row.now _ k k p (same_instances c.args.sig.now c.args.row.now) ∙ sym c.as_slice.ensures.value)),
    )
