use Rattle.std.proofs.Common.{List, subst, sym}
use Rattle.psg_explain.specs.Equations.{Derives, Equation}
use Rattle.psg_explain.specs.Solutions.{IsFailure}
use Rattle.psg_explain.proofs.FitLaws.{solved_case}
use Rattle.psg_explain.proofs.fitting.verdict.Goals as goal

pub covered_case-requires-clause-solved : goal.covered_case-requires-clause-solved
covered_case-requires-clause-solved c = solved_case c.args.case.now.given c.as_slice.result.now c.in_ok-solution.solution c.as_slice.ensures c.in_ok-solution.ensures c.in-None.is

pub returns-in-Some : goal.returns-in-Some
returns-in-Some c =
    let s = c.in_ok-solution.solution in
    c.failed.ensures c.args.rows.now c.args.case.now.given s.derived.all.items c.args.case.now.columns
    (subst (λ rules. Derives c.args.case.now.given rules s.derived.all.items) (sym c.of-rules.ensures)
    (subst (λ (g : List Equation). Derives g s.derived.rules.items s.derived.all.items) c.as_slice.ensures c.in_ok-solution.ensures.derives)) (subst (IsFailure s.derived.all.items) c.in-Some.is c.in_ok-solution.ensures.failed)
