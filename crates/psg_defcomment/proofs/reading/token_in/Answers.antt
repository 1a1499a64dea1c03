use Rattle.std.proofs.lemmas.Result.{err_from_is_err_and}
use Rattle.psg_grammar.specs.WellFormed.{fixed_words}
use Rattle.psg_defcomment.proofs.Firsts.{one_fit, only_one, second_alone, unfit_fault}
use Rattle.psg_defcomment.proofs.reading.token_in.Goals as goal

pub returns-in-Some-clause-err : goal.returns-in-Some-clause-err
returns-in-Some-clause-err c = λ bytes e r.
    second_alone bytes c.args.named.now c.in-Some.line c.args.definition.now e r c.in-Some.ensures

pub returns-in_err-token-clause-err : goal.returns-in_err-token-clause-err
returns-in_err-token-clause-err c =
    let p = err_from_is_err_and c.from_residual.result c.from_residual.ensures.1 in
    rw (p.1, p.2) (λ bytes e r.
    unfit_fault bytes c.args.named.now c.in-Some-split_first.first.now c.args.definition.now c.in_err-token.field-0.0 e r
    (only_one c.args.named.now c.in-Some-split_first.first.now _ c.in-Some-split_first.ensures.cases.0 c.in_default.ensures)
    c.in_err-token.ensures.err)

pub returns-clause-fit : goal.returns-clause-fit
returns-clause-fit c =
    (one_fit (fixed_words c.args.definition.now) c.args.named.now c.in-Some-split_first.first.now c.in_ok-token.token
    (only_one c.args.named.now c.in-Some-split_first.first.now _ c.in-Some-split_first.ensures.cases.0 c.in_default.ensures)
    c.in_ok-token.ensures.ok.0 c.in_ok-token.ensures.ok.1).0

pub returns-clause-first : goal.returns-clause-first
returns-clause-first c =
    (one_fit (fixed_words c.args.definition.now) c.args.named.now c.in-Some-split_first.first.now c.in_ok-token.token
    (only_one c.args.named.now c.in-Some-split_first.first.now _ c.in-Some-split_first.ensures.cases.0 c.in_default.ensures)
    c.in_ok-token.ensures.ok.0 c.in_ok-token.ensures.ok.1).1
