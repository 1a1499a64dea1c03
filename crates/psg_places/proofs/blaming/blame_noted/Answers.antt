use Rattle.std.proofs.Common.{◌+◌, ◌*◌}
use Rattle.psg_cache.specs.Annotated.{tree_in}
use Rattle.psg_places.specs.declared.fault.BlameFault.TheVariants.{Memory}
use Rattle.psg_places.specs.Answers.{IsBlameFault}
use Rattle.psg_places.specs.Blame.{most_blamed}
use Rattle.psg_places.proofs.AnswerLaws.{passed}
use Rattle.psg_places.proofs.ClimbLaws.{and_climb, near_whole, ok_climb_trials, ok_search_noted}
use Rattle.psg_places.proofs.blaming.blame_noted.Goals as goal

pub returns-in_err-front-clause-fault : goal.returns-in_err-front-clause-fault
returns-in_err-front-clause-fault g c =
    passed (IsBlameFault c.args.definition.now c.args.tree.now) _ Memory c.from_residual.ensures.1 tt

pub searched-requires-clause-near : goal.searched-requires-clause-near
searched-requires-clause-near g c = near_whole c.args.definition.now c.args.tree.now c.args.note.now c.requires.note

pub searched-requires-clause-formed : goal.searched-requires-clause-formed
searched-requires-clause-formed g c = c.requires.note.formed

pub returns-clause-ticks : goal.returns-clause-ticks
returns-clause-ticks g c h le =
    and_climb c.args.definition.now c.in_ok-front.front c.args.tree.now c.requires.sound c.in_ok-front.ensures c.requires.note.formed
    (tree_in c.args.note.now) (most_blamed * (1 + h)) _ _ (c.searched.ensures.ticks h le)

pub returns-clause-trials : goal.returns-clause-trials
returns-clause-trials g c =
    ok_climb_trials c.args.definition.now c.in_ok-front.front c.args.tree.now c.requires.sound c.in_ok-front.ensures
    c.requires.note.formed (tree_in c.args.note.now) c.searched.result _ _ _ c.searched.ensures.trials

pub returns-clause-climbs : goal.returns-clause-climbs
returns-clause-climbs g c =
    ok_search_noted c.args.definition.now c.in_ok-front.front c.args.tree.now c.searched.result _ _ _ _ c.requires.note.tree
    c.searched.ensures.climbs
