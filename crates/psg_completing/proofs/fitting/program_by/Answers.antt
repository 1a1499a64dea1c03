use Rattle.std.proofs.Common.{refl, subst}
use Rattle.std.specs.Prelude.{IfSome}
use Rattle.psg_grammar.specs.Fragments.{Fragment}
use Rattle.psg_completing.specs.Fitted.{IsTreeOf}
use Rattle.psg_pointing.proofs.Walks.{none_in, some_in}
use Rattle.psg_completing.proofs.fitting.program_by.Goals as goal

pub returns-in-Some-clause-some : goal.returns-in-Some-clause-some
returns-in-Some-clause-some g c = (
  refl,
  some_in (λ t. IsTreeOf c.args.language.now c.args.kind c.args.tokens.items t) c.in_ok-found.found c.in-Some.tree
      c.in-Some.is
      (subst (λ l. IfSome c.in_ok-found.found (IsTreeOf c.args.language.now c.args.kind l)) c.as_slice-row.ensures.value
      c.in_ok-found.ensures.some),
)

pub returns-in-None-clause-none : goal.returns-in-None-clause-none
returns-in-None-clause-none g c =
    subst (λ l. (f : Fragment) → IsTreeOf c.args.language.now c.args.kind l f → ⊥) c.as_slice-row.ensures.value
    (none_in _ c.in_ok-found.found c.in-None.is c.in_ok-found.ensures.none)
