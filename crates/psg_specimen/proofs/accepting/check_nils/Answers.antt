use Rattle.std.proofs.Common.{inr, subst, arith}
use Rattle.psg_completions.specs.Covered.{IsCoveredNil}
use Rattle.psg_specimen.specs.Walks.{FindsTwo}
use Rattle.psg_specimen.proofs.CoverLaws.{nil_list_in, nil_row_in}
use Rattle.psg_specimen.proofs.accepting.check_nils.Goals as goal

pub overflow_cast-result : goal.overflow_cast-result
overflow_cast-result c =
    let first = subst (FindsTwo (IsCoveredNil c.args.definition.now)) c.in-Some.is c.in_ok-list.ensures in
    let h = nil_list_in c.args.definition.now c.requires.sound c.in-Some.list c.in-Some.row first.0 in
    let k = c.requires.sound.few_lists in omega (arith, h, k)

pub overflow_cast-result-in-Some : goal.overflow_cast-result-in-Some
overflow_cast-result-in-Some c =
    let first = subst (FindsTwo (IsCoveredNil c.args.definition.now)) c.in-Some.is c.in_ok-list.ensures in
    let h = nil_row_in c.args.definition.now c.requires.sound c.in-Some.list c.in-Some.row first.0 in omega (arith, h)

pub returns-in-Some-clause-refusal : goal.returns-in-Some-clause-refusal
returns-in-Some-clause-refusal c =
    let first = subst (FindsTwo (IsCoveredNil c.args.definition.now)) c.in-Some.is c.in_ok-list.ensures in
    inr ((c.requires.class, c.requires.before, first), nil_list_in c.args.definition.now c.requires.sound c.in-Some.list c.in-Some.row first.0)

pub returns-clause-met : goal.returns-clause-met
returns-clause-met c = (c.requires.before, subst (FindsTwo (IsCoveredNil c.args.definition.now)) c.in_default.is c.in_ok-list.ensures)
