use Rattle.std.proofs.Common.{◌∷◌, [], ◌++◌, inr, sym, ap, ◌∙◌}
use Rattle.psg_terms.specs.Canonical.{Variable}
use Rattle.psg_explain.specs.declared.refutation.Rule.TheVariants as rules
use Rattle.psg_explain.proofs.SolvingLaws.{derives_more, gives_replaced, rewritten_none}
use Rattle.psg_explain.proofs.solver.put_in_task.Goals as goal

pub returns-then-not-occurs_in-clause-equation : goal.returns-then-not-occurs_in-clause-equation
returns-then-not-occurs_in-clause-equation c =
    let x : Variable = (c.args.bound.now.variable.sort.0, c.args.bound.now.variable.number) in
    c.in_ok-same.ensures ∙ rewritten_none x c.args.bound.now.by c.args.task.now.equation (sym c.occurs_in.ensures ∙ c.if-not-occurs_in.true)

pub returns-clause-derives : goal.returns-clause-derives
returns-clause-derives c = λ given. inr (
  c.in_ok-number.ensures.number,
  c.in_ok-number.ensures.all ∙ ap (λ e. c.args.derived.now.all.items ++ e ∷ []) c.in_ok-copy.ensures,
  λ derives at bound differ.
      let x : Variable = (c.args.bound.now.variable.sort.0, c.args.bound.now.variable.number) in
      derives_more given c.args.derived.now.rules.items c.args.derived.now.all.items (rules.Replace c.args.task.now.number c.args.bound.now.number) c.in_ok-copy.copy c.add.new.self.rules.items c.add.new.self.all.items
      c.in_ok-number.ensures.rules c.in_ok-number.ensures.all derives
      (gives_replaced given c.args.derived.now.all.items c.args.task.now.number c.args.bound.now.number x c.args.bound.now.by c.args.task.now.equation c.in_ok-copy.copy at bound differ
      (c.in_ok-copy.ensures ∙ c.in_ok-made.ensures)),
)
