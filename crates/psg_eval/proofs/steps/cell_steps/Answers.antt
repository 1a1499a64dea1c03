use Rattle.std.proofs.Common.{rules, Err, ◌≡◌, sym, subst}
use Rattle.psg_grammar.specs.Fragments.{cell}
use Rattle.psg_eval.specs.StepRows.{MatchSteps}
use Rattle.psg_eval.proofs.steps.cell_steps.Goals as goal

pub returns-in_err-all-clause-answer : goal.returns-in_err-all-clause-answer
returns-in_err-all-clause-answer g c = λ e r one two.
    let def = c.args.definition.now in
    let fault = c.in_err-all.field-0.0 in
    let d : c.from_residual.result ≡ Err fault = search rules in
    subst (MatchSteps def (cell c.args.list e r)) (sym d) (c.in_err-all.ensures e r one two)

pub returns-clause-answer : goal.returns-clause-answer
returns-clause-answer g c = c.in_ok-all.ensures
