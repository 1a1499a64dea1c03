use Rattle.std.proofs.Common.{◌++◌, Some, sym, ap, ap₂, subst, ◌∙◌, arith}
use Rattle.psg_terms.specs.Terms.{symbol, applied}
use Rattle.psg_terms.specs.Shapes.{term_of}
use Rattle.psg_terms.specs.Canonical.{is_noted}
use Rattle.psg_terms.proofs.Variables.{true_false}
use Rattle.psg_explain.specs.Reasons.{paired}
use Rattle.psg_explain.specs.Solutions.{Solving, tasks_of, variables_in, weigh}
use Rattle.psg_explain.proofs.CountLaws.{parts_smaller, parts_within, rest_within}
use Rattle.psg_explain.proofs.SolvingLaws.{are_clash, clash_of, head_con, pair_is, solve_clash, solve_equal, solve_parts}
use Rattle.psg_explain.proofs.solver.taken.Goals as goal

pub returns-then-branch-clause-takes : goal.returns-then-branch-clause-takes
returns-then-branch-clause-takes c = λ bs r s.
    solve_equal c.args.task.equation.0 c.args.task.equation.1 (tasks_of c.args.work.now) bs r (c.in_ok-alike.ensures.0 c.if-branch.true) s

pub returns-then-branch-clause-within : goal.returns-then-branch-clause-within
returns-then-branch-clause-within c = rest_within c.args.task.equation (tasks_of c.args.work.now)

pub returns-in-Var-clause-takes : goal.returns-in-Var-clause-takes
returns-in-Var-clause-takes c = c.in_ok-found-in-Var.ensures.comes c.args.work.now

pub returns-in-Var-clause-within : goal.returns-in-Var-clause-within
returns-in-Var-clause-within c = rest_within c.args.task.equation (tasks_of c.args.work.now)

pub met_right-requires-clause-head : goal.met_right-requires-clause-head
met_right-requires-clause-head c =
    (c.in-Con.con.0, head_con c.args.task.equation.0 c.in-Con.con.0 c.in-Con.args (sym c.node.ensures ∙ ap term_of c.in-Con.is))

pub returns-in-Var-node-clause-within : goal.returns-in-Var-node-clause-within
returns-in-Var-node-clause-within c = λ x h.
    rest_within c.args.task.equation (tasks_of c.args.work.now) x (sym (ap (λ l. is_noted x (variables_in l)) c.in_ok-found-in-Var-node.ensures.tasks) ∙ h)

pub returns-then-con-other-clause-takes : goal.returns-then-con-other-clause-takes
returns-then-con-other-clause-takes c = λ rest.
    solve_clash c.args.task.equation.0 c.args.task.equation.1 c.in_ok-one-in-Con-node.one c.in_ok-two-in-Con-node.two rest c.in_ok-one-in-Con-node.ensures c.in_ok-two-in-Con-node.ensures
    (are_clash c.args.task.equation.0 c.args.task.equation.1 c.in-Con.con.0 c.in-Con-node.other.0 c.in-Con.args c.in-Con-node.parts
    (sym c.node.ensures ∙ ap term_of c.in-Con.is) (sym c.node-in-Con.ensures ∙ ap term_of c.in-Con-node.is) c.if-con-other.true)

pub returns-then-con-other-clause-work : goal.returns-then-con-other-clause-work
returns-then-con-other-clause-work c = λ given w at apart. (
  w,
  (
    at ∙ ap Some (pair_is c.args.task.equation.0 c.args.task.equation.1 c.in_ok-one-in-Con-node.one c.in_ok-two-in-Con-node.two (sym c.in_ok-one-in-Con-node.ensures) (sym c.in_ok-two-in-Con-node.ensures)),
    clash_of c.args.task.equation.0 c.args.task.equation.1 c.in_ok-one-in-Con-node.one c.in_ok-two-in-Con-node.two c.in_ok-one-in-Con-node.ensures c.in_ok-two-in-Con-node.ensures
        (are_clash c.args.task.equation.0 c.args.task.equation.1 c.in-Con.con.0 c.in-Con-node.other.0 c.in-Con.args c.in-Con-node.parts
        (sym c.node.ensures ∙ ap term_of c.in-Con.is) (sym c.node-in-Con.ensures ∙ ap term_of c.in-Con-node.is) c.if-con-other.true),
  ),
)

pub returns-then-con-other-clause-within : goal.returns-then-con-other-clause-within
returns-then-con-other-clause-within c = rest_within c.args.task.equation (tasks_of c.args.work.now)

pub returns-clause-takes : goal.returns-clause-takes
returns-clause-takes c = λ bs r s.
    solve_parts c.args.task.equation.0 c.args.task.equation.1 c.in-Con.con.0 c.in-Con.args c.in-Con-node.parts (tasks_of c.args.work.now) bs r
    (sym c.node.ensures ∙ ap term_of c.in-Con.is)
    (sym c.node-in-Con.ensures ∙ ap term_of c.in-Con-node.is ∙ ap (λ k. applied (symbol k) c.in-Con-node.parts) (sym c.if-con-other.false))
    (λ d. true_false (sym (c.in_ok-alike.ensures.1 d) ∙ c.if-branch.false))
    (subst (λ l. Solving l bs r) (c.in_ok-add_parts-in-Con-node.ensures.tasks ∙ ap₂ (λ l m. paired l m ++ tasks_of c.args.work.now) c.as_slice-xs.ensures c.as_slice-ys.ensures) s)

pub returns-clause-within : goal.returns-clause-within
returns-clause-within c = λ x h.
    parts_within c.args.task.equation.0 c.args.task.equation.1 c.in-Con.con.0 c.in-Con-node.other.0 c.in-Con.args c.in-Con-node.parts (tasks_of c.args.work.now)
    (sym c.node.ensures ∙ ap term_of c.in-Con.is) (sym c.node-in-Con.ensures ∙ ap term_of c.in-Con-node.is) x
    (sym (ap (λ l. is_noted x (variables_in l)) (c.in_ok-add_parts-in-Con-node.ensures.tasks ∙ ap₂ (λ l m. paired l m ++ tasks_of c.args.work.now) c.as_slice-xs.ensures c.as_slice-ys.ensures)) ∙ h)

pub returns-clause-smaller : goal.returns-clause-smaller
returns-clause-smaller c =
    let k = ap weigh (c.in_ok-add_parts-in-Con-node.ensures.tasks ∙ ap₂ (λ l m. paired l m ++ tasks_of c.args.work.now) c.as_slice-xs.ensures c.as_slice-ys.ensures) in
    let p = parts_smaller c.args.task.equation.0 c.args.task.equation.1 c.in-Con.con.0 c.in-Con-node.other.0 c.in-Con.args c.in-Con-node.parts (tasks_of c.args.work.now)
    (sym c.node.ensures ∙ ap term_of c.in-Con.is) (sym c.node-in-Con.ensures ∙ ap term_of c.in-Con-node.is) in
    omega (arith, k, p)
