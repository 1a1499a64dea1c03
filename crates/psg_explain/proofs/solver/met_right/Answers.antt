use Rattle.std.proofs.Common.{◌∷◌, [], Some, refl, sym, ap, ap₂, subst, ◌∙◌}
use Rattle.psg_terms.specs.Canonical.{Variable, is_noted, variables}
use Rattle.psg_explain.specs.declared.refutation.Reason.{Reason}
use Rattle.psg_explain.specs.declared.refutation.Reason.TheVariants.{Circle}
use Rattle.psg_explain.specs.declared.refutation.Rule.TheVariants as rules
use Rattle.psg_explain.specs.Equations.{term_of}
use Rattle.psg_explain.specs.Solutions.{Solving}
use Rattle.psg_explain.proofs.CountLaws.{left_there, right_there}
use Rattle.psg_explain.proofs.SolvingLaws.{extends_added, fresh_apart, new_at, no_head, pair_is, right_bound_by, right_circle, right_is_circle, variable_there, working_more_by}
use Rattle.psg_explain.proofs.solver.met_right.Goals as goal

pub returns-then-occurs-clause-comes : goal.returns-then-occurs-clause-comes
returns-then-occurs-clause-comes c = λ rest.
    let x : Variable = (c.args.variable.sort.0, c.args.variable.number) in
    subst (λ (r : Reason). Solving ((c.args.by.now, c.args.side.now) ∷ rest) [] (Some r)) (ap₂ Circle (sym c.in_ok-one.ensures) (sym c.in_ok-other.ensures))
    (right_circle x c.args.side.now c.args.by.now c.requires.side (sym c.occurs.ensures ∙ c.if-occurs.true) (no_head x c.args.side.now c.args.by.now c.requires.head.0 c.requires.side c.requires.head.1) rest)

pub returns-then-occurs-clause-found : goal.returns-then-occurs-clause-found
returns-then-occurs-clause-found c = λ given w at.
    let x : Variable = (c.args.variable.sort.0, c.args.variable.number) in (
      w,
      (
        (c.args.by.now, c.args.side.now),
        at,
        right_is_circle x c.args.side.now c.args.by.now c.requires.side (sym c.occurs.ensures ∙ c.if-occurs.true)
            (no_head x c.args.side.now c.args.by.now c.requires.head.0 c.requires.side c.requires.head.1),
      ),
    )

pub returns-clause-comes : goal.returns-clause-comes
returns-clause-comes c = (
  refl,
  λ rest bs r s.
      let x : Variable = (c.args.variable.sort.0, c.args.variable.number) in
      right_bound_by x c.requires.head.0 c.args.side.now c.args.by.now c.in_ok-term.term c.requires.side c.requires.head.1 (sym c.occurs.ensures ∙ c.if-occurs.false) c.in_ok-term.ensures rest bs r s,
)

pub returns-clause-found : goal.returns-clause-found
returns-clause-found c = λ given w at.
    let x : Variable = (c.args.variable.sort.0, c.args.variable.number) in
    let all = c.args.work.now.derived.all.items in
    let sides = pair_is c.in_ok-new_left.new_left c.in_ok-new_right.new_right c.args.side.now c.args.by.now c.in_ok-new_left.ensures c.in_ok-new_right.ensures in
    let grown = c.in_ok-turned.ensures.all in (
      working_more_by given c.args.work.now.derived.rules.items all c.args.work.now.left.items (rules.Flip c.args.number) (c.in_ok-new_left.new_left, c.in_ok-new_right.new_right)
          c.add.new.self.rules.items c.add.new.self.all.items c.in_ok-turned.ensures.rules grown w
          (at ∙ ap Some (pair_is c.args.by.now c.args.side.now c.in_ok-new_right.new_right c.in_ok-new_left.new_left (sym c.in_ok-new_right.ensures) (sym c.in_ok-new_left.ensures))),
      (
        new_at all c.add.new.self.all.items (c.in_ok-new_left.new_left, c.in_ok-new_right.new_right) (term_of x, c.in_ok-term.term) c.in_ok-turned.turned grown c.in_ok-turned.ensures.number
            (sides ∙ pair_is c.args.side.now c.args.by.now (term_of x) c.in_ok-term.term c.requires.side (sym c.in_ok-term.ensures)),
        fresh_apart all c.in_ok-turned.turned c.in_ok-turned.ensures.number c.args.work.now.left.items w.there,
      ),
    )

pub returns-clause-bound : goal.returns-clause-bound
returns-clause-bound c =
    let x : Variable = (c.args.variable.sort.0, c.args.variable.number) in
    record {
      there = right_there c.args.by.now c.args.side.now x (variable_there x c.args.side.now c.requires.side);
      within = λ y i. left_there c.args.by.now c.args.side.now y (sym (ap (λ t. is_noted y (variables t)) c.in_ok-term.ensures) ∙ i);
      outside = ap (λ t. is_noted x (variables t)) c.in_ok-term.ensures ∙ sym c.occurs.ensures ∙ c.if-occurs.false;
    }

pub returns-clause-extends : goal.returns-clause-extends
returns-clause-extends c = λ n e h.
    extends_added c.args.work.now.derived.all.items c.add.new.self.all.items (c.in_ok-new_left.new_left, c.in_ok-new_right.new_right) c.in_ok-turned.ensures.all n e h
