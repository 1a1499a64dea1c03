use Rattle.std.proofs.Common.{ap, ◌∙◌}
use Rattle.psg_completing.specs.Fillings.{filled, mark_byte}
use Rattle.psg_completing.specs.Fitted.{IsRead}
use Rattle.psg_completing.proofs.Fits.{fitted_is, none_fitted, none_there}
use Rattle.psg_pointing.proofs.Walks.{none_in, some_in}
use Rattle.psg_completing.proofs.fitting.fit_of.Goals as goal

pub returns-in-Some-clause-some : goal.returns-in-Some-clause-some
returns-in-Some-clause-some g c =
    fitted_is c.args.language.now c.class_of.ensures c.args.kind c.args.own.now c.args.word c.args.filling _ _
    (c.as_slice-bytes.ensures.value ∙ c.in_ok-trial.ensures.text
    ∙ ap (λ d. filled d c.args.own.now c.args.word c.args.filling) c.definition-definition.ensures.same)
    (c.in_ok-trial.ensures.byte ∙ ap (λ d. mark_byte d c.args.word c.args.filling) c.definition-definition.ensures.same)
    c.in-Some.program
    (some_in (IsRead c.args.language.now c.args.kind c.as_slice-bytes.result.now) c.in_ok-found.found c.in-Some.program
    c.in-Some.is c.in_ok-found.ensures.some)
    c.in_ok-fitted-in-Some.fitted c.in_ok-fitted-in-Some.ensures.some

pub returns-in-Some-clause-none : goal.returns-in-Some-clause-none
returns-in-Some-clause-none g c =
    none_fitted c.args.language.now c.class_of.ensures c.args.kind c.args.own.now c.args.word c.args.filling _ _
    (c.as_slice-bytes.ensures.value ∙ c.in_ok-trial.ensures.text
    ∙ ap (λ d. filled d c.args.own.now c.args.word c.args.filling) c.definition-definition.ensures.same)
    (c.in_ok-trial.ensures.byte ∙ ap (λ d. mark_byte d c.args.word c.args.filling) c.definition-definition.ensures.same)
    c.in-Some.program
    (some_in (IsRead c.args.language.now c.args.kind c.as_slice-bytes.result.now) c.in_ok-found.found c.in-Some.program
    c.in-Some.is c.in_ok-found.ensures.some)
    c.in_ok-fitted-in-Some.fitted c.in_ok-fitted-in-Some.ensures.none

pub returns-clause-none : goal.returns-clause-none
returns-clause-none g c =
    none_there c.args.language.now c.class_of.ensures c.args.kind c.args.own.now c.args.word c.args.filling
    c.as_slice-bytes.result.now c.in_ok-trial.trial.byte
    (c.as_slice-bytes.ensures.value ∙ c.in_ok-trial.ensures.text
    ∙ ap (λ d. filled d c.args.own.now c.args.word c.args.filling) c.definition-definition.ensures.same)
    (c.in_ok-trial.ensures.byte ∙ ap (λ d. mark_byte d c.args.word c.args.filling) c.definition-definition.ensures.same)
    (none_in _ c.in_ok-found.found c.in-None.is c.in_ok-found.ensures.none)
