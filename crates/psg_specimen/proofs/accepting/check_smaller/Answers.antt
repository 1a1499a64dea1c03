use Rattle.std.proofs.Common.{inr, subst}
use Rattle.psg_specimen.specs.Refusal.{IsSmallerAt}
use Rattle.psg_specimen.specs.Walks.{FindsPlace}
use Rattle.psg_specimen.specs.declared.fault.Site.TheVariants as sites
use Rattle.psg_specimen.proofs.accepting.check_smaller.Goals as goal

pub returns-in-Some-clause-refusal : goal.returns-in-Some-clause-refusal
returns-in-Some-clause-refusal c =
    let first = subst (FindsPlace (IsSmallerAt c.args.definition.now)) c.in-Some.is c.in_ok-site.ensures in
    inr ((c.requires.class, c.requires.before, first), tt)

pub returns-clause-met : goal.returns-clause-met
returns-clause-met c =
    let held = subst (FindsPlace (IsSmallerAt c.args.definition.now)) c.in_default.is c.in_ok-site.ensures in (
      c.requires.before,
      (λ r row at d one there h. held (sites.Hole r d) h row at one there, λ k d at h. held (sites.Declare k) h d at),
    )
