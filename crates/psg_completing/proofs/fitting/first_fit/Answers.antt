use Rattle.std.proofs.Common.{ap, sym, subst, ◌∙◌}
use Rattle.psg_grammar.specs.Sound.{IsSound}
use Rattle.psg_completing.specs.Fillings.{Fits, fillings as all_of}
use Rattle.psg_completing.specs.Fitted.{IsFitted}
use Rattle.psg_completing.proofs.Fits.{first_here, first_none, it_fits, left_next_at, own_filling}
use Rattle.psg_pointing.proofs.Walks.{none_in, some_in}
use Rattle.psg_completing.proofs.fitting.first_fit.Goals as goal

pub fillings-requires : goal.fillings-requires
fillings-requires g c = subst IsSound (sym c.definition-definition.ensures.same) c.definition-definition.ensures.sound

pub loop-number-init : goal.loop-number-init
loop-number-init g c = λ found h. h

pub loop-number-preserved : goal.loop-number-preserved
loop-number-preserved g c =
    left_next_at (Fits c.args.language.now c.args.kind c.args.own.now c.args.word) c.as_slice-row.result.now
    c.loop-number.number c.filling_at-put.result c.filling_at-put.ensures c.loop-number.invariant
    (none_in _ c.in_ok-found.found c.in-None.is c.in_ok-found.ensures.none)

pub returns-in-Some-clause-fitted : goal.returns-in-Some-clause-fitted
returns-in-Some-clause-fitted g c =
    own_filling c.args.language.now c.args.kind c.args.own.now c.args.word c.filling_at-put.result c.in-Some.fit
    (some_in (IsFitted c.args.language.now c.args.kind c.args.own.now c.args.word c.filling_at-put.result)
    c.in_ok-found.found c.in-Some.fit c.in-Some.is c.in_ok-found.ensures.some)

pub returns-in-Some-clause-first : goal.returns-in-Some-clause-first
returns-in-Some-clause-first g c =
    let is = some_in (IsFitted c.args.language.now c.args.kind c.args.own.now c.args.word c.filling_at-put.result)
    c.in_ok-found.found c.in-Some.fit c.in-Some.is c.in_ok-found.ensures.some in
    first_here (Fits c.args.language.now c.args.kind c.args.own.now c.args.word) c.as_slice-row.result.now _
    c.loop-number.number c.filling_at-put.result c.in-Some.fit.filling c.filling_at-put.ensures is.filling_is
    (it_fits c.args.language.now c.args.kind c.args.own.now c.args.word c.filling_at-put.result c.in-Some.fit is)
    (c.as_slice-row.ensures.value ∙ c.in_ok-all.ensures
    ∙ ap (λ d. all_of d) c.definition-definition.ensures.same) c.loop-number.invariant

pub returns-clause-first : goal.returns-clause-first
returns-clause-first g c =
    first_none (Fits c.args.language.now c.args.kind c.args.own.now c.args.word) c.as_slice-row.result.now _
    c.loop-number.number c.loop-number-test.false
    (c.as_slice-row.ensures.value ∙ c.in_ok-all.ensures
    ∙ ap (λ d. all_of d) c.definition-definition.ensures.same) c.loop-number.invariant
