use Rattle.psg_menu.proofs.TrialLaws.{class_judged}
use Rattle.std.proofs.Common.{subst, sym}
use Rattle.std.specs.List.{AllByRecursion}
use Rattle.psg_menu.specs.Trials.{IsClass}
use Rattle.psg_menu.proofs.judging.judged_once.Goals as goal

pub returns-in-Some-clause-judged : goal.returns-in-Some-clause-judged
returns-in-Some-clause-judged g c =
    let def = c.args.definition.now in
    let around = c.args.frames.now in
    class_judged def around c.as_slice.result.now c.args.own c.in-Some.good
    (subst (AllByRecursion (IsClass def around)) (sym c.as_slice.ensures.value) c.requires.classes) c.in-Some.ensures
