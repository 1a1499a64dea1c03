use Rattle.std.proofs.Common.{rules, Err, ◌≡◌, sym, subst}
use Rattle.psg_grammar.specs.Specimens.{end_tree}
use Rattle.psg_specimen.specs.Patterns.{IsListFor}
use Rattle.psg_specimen.proofs.PatternLaws.{end_done, end_wide}
use Rattle.psg_specimen.proofs.patterns.end_pattern.Goals as goal

pub returns-in_err-end-in-None-clause-end : goal.returns-in_err-end-in-None-clause-end
returns-in_err-end-in-None-clause-end c =
    let def = c.args.definition.now in
    let fault = c.in_err-end-in-None.field-0.0 in
    let d : c.from_residual-in_err-end-in-None.result ≡ Err fault = search rules in
    subst (IsListFor def (end_tree c.args.list c.args.rest.now)) (sym d) (end_wide def c.args.list c.args.rest.now fault c.in-None.is c.in_err-end-in-None.ensures.answer)

pub returns-in_ok-end-in-None-clause-end : goal.returns-in_ok-end-in-None-clause-end
returns-in_ok-end-in-None-clause-end c = end_done c.args.definition.now c.args.list c.args.rest.now c.in_ok-end-in-None.end c.in-None.is c.in_ok-end-in-None.ensures.answer
