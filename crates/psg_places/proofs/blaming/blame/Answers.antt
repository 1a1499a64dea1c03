use Rattle.std.proofs.Common.{◌+◌, ◌*◌}
use Rattle.psg_grammar.specs.Work.{work_of}
use Rattle.psg_places.specs.declared.fault.BlameFault.TheVariants.{Memory}
use Rattle.psg_places.specs.Answers.{IsBlameFault}
use Rattle.psg_places.specs.Blame.{most_blamed}
use Rattle.psg_places.proofs.AnswerLaws.{passed}
use Rattle.psg_places.proofs.ClimbLaws.{and_same, ok_same_trials, ok_search_anew}
use Rattle.psg_places.proofs.SearchLaws.{first_trial}
use Rattle.psg_places.proofs.blaming.blame.Goals as goal

pub returns-in_err-front-clause-fault : goal.returns-in_err-front-clause-fault
returns-in_err-front-clause-fault g c =
    passed (IsBlameFault c.args.definition.now c.args.tree.now) _ Memory c.from_residual.ensures.1 tt

pub returns-in_err-nothing-clause-fault : goal.returns-in_err-nothing-clause-fault
returns-in_err-nothing-clause-fault g c =
    passed (IsBlameFault c.args.definition.now c.args.tree.now) _ c.in_err-nothing.field-0.0
    c.from_residual-in_err-nothing.ensures.1 c.in_err-nothing.ensures.fault

pub returns-in_err-nothing-clause-ticks : goal.returns-in_err-nothing-clause-ticks
returns-in_err-nothing-clause-ticks g c h le =
    first_trial (most_blamed * (1 + h)) (work_of c.args.tree.now) _ _ c.nothing_noted.ensures.ticks

pub returns-clause-ticks : goal.returns-clause-ticks
returns-clause-ticks g c h le =
    and_same (most_blamed * (1 + h)) (work_of c.args.tree.now) _ _ _ _ _ c.in_ok-nothing.ensures.note.tree
    c.nothing_noted.ensures.ticks (c.searched.ensures.ticks h le)

pub returns-clause-trials : goal.returns-clause-trials
returns-clause-trials g c =
    ok_same_trials c.searched.result _ _ _ _ _ _ _ c.in_ok-nothing.ensures.note.tree c.nothing_noted.ensures.ticks
    c.searched.ensures.trials

pub returns-clause-climbs : goal.returns-clause-climbs
returns-clause-climbs g c =
    ok_search_anew c.args.definition.now c.in_ok-front.front c.args.tree.now c.searched.result _ _ _ _ _
    c.in_ok-nothing.ensures.note.tree c.nothing_noted.ensures.anew c.searched.ensures.climbs
