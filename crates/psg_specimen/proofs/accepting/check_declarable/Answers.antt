use Rattle.std.proofs.Common.{inr, subst, arith}
use Rattle.psg_completions.specs.Elements.{IsDeclarable}
use Rattle.psg_specimen.specs.Walks.{FindsThree}
use Rattle.psg_specimen.proofs.DeclarableLaws.{list_in, space_in, con_in_range}
use Rattle.psg_specimen.proofs.accepting.check_declarable.Goals as goal

pub overflow_cast-result : goal.overflow_cast-result
overflow_cast-result c =
    let found = subst (FindsThree (IsDeclarable c.args.definition.now)) c.in-Some.is c.in_ok-list.ensures in
    let h = list_in c.args.definition.now c.in-Some.list c.in-Some.space c.in-Some.con found.0 in
    let k = c.requires.sound.few_lists in omega (arith, h, k)

pub returns-in-Some-clause-refusal : goal.returns-in-Some-clause-refusal
returns-in-Some-clause-refusal c =
    let def = c.args.definition.now in
    let found = subst (FindsThree (IsDeclarable def)) c.in-Some.is c.in_ok-list.ensures in
    inr (
      (c.requires.class, c.requires.before, found),
      (list_in def c.in-Some.list c.in-Some.space c.in-Some.con found.0, space_in def c.in-Some.list c.in-Some.space c.in-Some.con found.0, con_in_range def c.in-Some.list c.in-Some.space c.in-Some.con found.0),
    )

pub returns-clause-met : goal.returns-clause-met
returns-clause-met c = (c.requires.before, subst (FindsThree (IsDeclarable c.args.definition.now)) c.in_default.is c.in_ok-list.ensures)
