use Rattle.std.proofs.Common.{◌∷◌, [], Some, refl, sym, ap₂, subst, ◌∙◌}
use Rattle.psg_terms.specs.Canonical.{Variable}
use Rattle.psg_explain.specs.declared.refutation.Reason.{Reason}
use Rattle.psg_explain.specs.declared.refutation.Reason.TheVariants.{Circle}
use Rattle.psg_explain.specs.Solutions.{Solving}
use Rattle.psg_explain.proofs.SolvingLaws.{left_bound_by, left_circle, left_is_circle}
use Rattle.psg_explain.proofs.solver.met_left.Goals as goal

pub returns-then-occurs-clause-comes : goal.returns-then-occurs-clause-comes
returns-then-occurs-clause-comes c = λ w rest.
    let x : Variable = (c.args.variable.sort.0, c.args.variable.number) in
    subst (λ (r : Reason). Solving ((c.args.side.now, c.args.by.now) ∷ rest) [] (Some r)) (ap₂ Circle (sym c.in_ok-one.ensures) (sym c.in_ok-other.ensures))
    (left_circle x c.args.side.now c.args.by.now c.requires.side (sym c.occurs.ensures ∙ c.if-occurs.true) c.requires.differ rest)

pub returns-then-occurs-clause-found : goal.returns-then-occurs-clause-found
returns-then-occurs-clause-found c = λ w at apart.
    let x : Variable = (c.args.variable.sort.0, c.args.variable.number) in
    ((c.args.side.now, c.args.by.now), at, left_is_circle x c.args.side.now c.args.by.now c.requires.side (sym c.occurs.ensures ∙ c.if-occurs.true) c.requires.differ)

pub returns-clause-comes : goal.returns-clause-comes
returns-clause-comes c = λ w. (
  refl,
  λ rest bs r s.
      let x : Variable = (c.args.variable.sort.0, c.args.variable.number) in
      left_bound_by x c.args.side.now c.args.by.now c.in_ok-term.term c.requires.side (sym c.occurs.ensures ∙ c.if-occurs.false) c.in_ok-term.ensures rest bs r s,
)
