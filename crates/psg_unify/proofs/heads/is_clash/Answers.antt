use Rattle.std.proofs.Common.{arith}
use Rattle.std.proofs.lemmas.Bool.{false≢true}
use Rattle.std.proofs.lemmas.Bool.Decides.{nat_tests}
use Rattle.psg_terms.proofs.Lists.{IfSome_at}
use Rattle.psg_unify.specs.Clashing.{IsHeadOf}
use Rattle.psg_unify.proofs.Clashes.{heads_differ, heads_clash}
use Rattle.psg_unify.proofs.Composed.{none_known}
use Rattle.psg_unify.proofs.heads.is_clash.Goals as goal

pub returns-in-Some-head_of-clause-says : goal.returns-in-Some-head_of-clause-says
returns-in-Some-head_of-clause-says c =
    let ha = IfSome_at (IsHeadOf c.args.a.now) _ c.in-Some.first c.in-Some.is c.head_of.ensures.some in
    let hb = IfSome_at (IsHeadOf c.args.b.now) _ c.in-Some-head_of.second c.in-Some-head_of.is c.head_of-in-Some.ensures.some in (
      λ t. (c.in-Some.first, c.in-Some-head_of.second, ha, hb, λ e. absurd (grind (arith, nat_tests))),
      λ h. let ne = heads_clash c.args.a.now c.args.b.now c.in-Some.first c.in-Some-head_of.second ha hb h in grind (arith, nat_tests),
    )

pub returns-in-Some-head_of-clause-never : goal.returns-in-Some-head_of-clause-never
returns-in-Some-head_of-clause-never c = λ t. heads_differ c.args.a.now c.args.b.now c.in-Some.first c.in-Some-head_of.second
    (IfSome_at (IsHeadOf c.args.a.now) _ c.in-Some.first c.in-Some.is c.head_of.ensures.some)
    (IfSome_at (IsHeadOf c.args.b.now) _ c.in-Some-head_of.second c.in-Some-head_of.is c.head_of-in-Some.ensures.some) (λ e. absurd (grind (arith, nat_tests)))

pub returns-in-None-head_of-clause-says : goal.returns-in-None-head_of-clause-says
returns-in-None-head_of-clause-says c = (
  λ t. absurd (false≢true t),
  λ (k, l, ha, hb, ne). absurd (none_known _ c.in-None-head_of.is c.head_of-in-Some.ensures.none l hb),
)

pub returns-in-None-clause-says : goal.returns-in-None-clause-says
returns-in-None-clause-says c = (λ t. absurd (false≢true t), λ (k, l, ha, hb, ne). absurd (none_known _ c.in-None.is c.head_of.ensures.none k ha))
