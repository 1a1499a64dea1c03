use Rattle.std.proofs.Common.{inr, ap, ◌∙◌, None, subst}
use Rattle.psg_specimen.specs.Shown.{IsWalk}
use Rattle.psg_specimen.specs.declared.fault.Site.TheVariants as sites
use Rattle.psg_specimen.specs.declared.unshown.Walk.TheVariants as walks
use Rattle.psg_specimen.proofs.accepting.check_specimens.Goals as goal

pub returns-in-Weak-Some-clause-refusal : goal.returns-in-Weak-Some-clause-refusal
returns-in-Weak-Some-clause-refusal c =
    let up = subst (IsWalk c.args.definition.now None) (c.in-Weak-Some.is ∙ ap walks.Weak c.in-Weak-Some.field-0-is) c.in_ok-site.ensures in
    inr (
      (
        c.requires.class,
        (c.requires.before, (λ r row at d one there. up.narrow (sites.Hole r d) tt row at one there, λ k d at. up.narrow (sites.Declare k) tt d at)),
        up.general,
      ),
      tt,
    )

pub returns-in-Weak-None-clause-met : goal.returns-in-Weak-None-clause-met
returns-in-Weak-None-clause-met c =
    let up = subst (IsWalk c.args.definition.now None) (c.in-Weak-None.is ∙ ap walks.Weak c.in-Weak-None.field-0-is) c.in_ok-site.ensures in (
      (c.requires.before, (λ r row at d one there. up.narrow (sites.Hole r d) tt row at one there, λ k d at. up.narrow (sites.Declare k) tt d at)),
      λ r row at d one there. up.general (sites.Hole r d) tt row at one there,
      λ k d at. up.general (sites.Declare k) tt d at,
    )
