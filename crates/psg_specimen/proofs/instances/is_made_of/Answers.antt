use Rattle.std.proofs.Common.{[], ◌∷◌, sym, subst, true≢false}
use Rattle.std.specs.Prelude.{◌↔◌, IsTrue}
use Rattle.psg_terms.specs.Instances.{IsInstance}
use Rattle.psg_specimen.proofs.instances.is_made_of.Goals as goal

pub returns-then-begin_apart : goal.returns-then-begin_apart
returns-then-begin_apart c = (
  λ h. absurd (true≢false (sym h)),
  λ i. absurd (c.begin_apart.ensures c.if-begin_apart.true i),
)

pub returns : goal.returns
returns c =
    subst (λ l. IsTrue c.in_ok-instance.instance ↔ IsInstance l (c.args.general.now ∷ [])) c.from_ref.ensures.value
    (subst (λ l. IsTrue c.in_ok-instance.instance ↔ IsInstance c.from_ref.result.now l) c.from_ref-2.ensures.value c.in_ok-instance.ensures.instance)
