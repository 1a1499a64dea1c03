use Rattle.std.proofs.Common.{[], ◌∷◌, sym, subst, true≢false}
use Rattle.std.specs.Prelude.{◌↔◌, IsTrue}
use Rattle.psg_terms.specs.Instances.{IsInstance}
use Rattle.psg_covering.proofs.CoverLaws.{term_of_one}
use Rattle.psg_covering.proofs.covers.is_made_of.Goals as goal

pub returns-then-differs : goal.returns-then-differs
returns-then-differs c = (
  λ h. absurd (true≢false (sym h)),
  λ (f, e). absurd (c.differs.ensures c.if-differs.true f (term_of_one c.args.term.now _ e)),
)

pub returns : goal.returns
returns c =
    subst (λ l. IsTrue c.in_ok-instance.instance ↔ IsInstance l (c.args.row.now.term ∷ [])) c.from_ref.ensures.value
    (subst (λ l. IsTrue c.in_ok-instance.instance ↔ IsInstance c.from_ref.result.now l) c.from_ref-2.ensures.value c.in_ok-instance.ensures.instance)
