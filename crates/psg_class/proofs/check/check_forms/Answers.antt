use Rattle.std.proofs.Common.{inr, Some, None, arith}
use Rattle.std.proofs.lemmas.Option.{slice_get_within}
use Rattle.psg_class.proofs.ReadLaws.{first_no_first, first_bad_form}
use Rattle.psg_class.proofs.check.check_forms.Goals as goal

pub returns-in-Some-clause-refusal : goal.returns-in-Some-clause-refusal
returns-in-Some-clause-refusal c =
    let (words, read) = c.requires in
    let f = first_no_first c.args.definition.now words c.args.shapes.now read (Some c.in-Some.number) c.in-Some.ensures in
    inr (f, slice_get_within c.args.definition.now.operators c.in-Some.number f.0.o f.0.found)

pub overflow_cast-result-in-Some-first_misfit : goal.overflow_cast-result-in-Some-first_misfit
overflow_cast-result-in-Some-first_misfit c =
    let (words, read) = c.requires in
    let f = first_bad_form c.args.definition.now words c.args.shapes.now read (Some c.in-Some-first_misfit.number) c.in-Some-first_misfit.ensures in
    let h = slice_get_within c.args.definition.now.operators c.in-Some-first_misfit.number f.0.o f.0.found in let k = read.sound.few_operators in omega (arith, h, k)

pub returns-in-Some-first_misfit-clause-refusal : goal.returns-in-Some-first_misfit-clause-refusal
returns-in-Some-first_misfit-clause-refusal c =
    let (words, read) = c.requires in
    let f = first_bad_form c.args.definition.now words c.args.shapes.now read (Some c.in-Some-first_misfit.number) c.in-Some-first_misfit.ensures in
    inr ((first_no_first c.args.definition.now words c.args.shapes.now read None c.in_default.ensures, f), slice_get_within c.args.definition.now.operators c.in-Some-first_misfit.number f.0.o f.0.found)

pub returns-clause-holds : goal.returns-clause-holds
returns-clause-holds c =
    let (words, read) = c.requires in
    (first_no_first c.args.definition.now words c.args.shapes.now read None c.in_default.ensures, first_bad_form c.args.definition.now words c.args.shapes.now read None c.in_default-first_misfit.ensures)
