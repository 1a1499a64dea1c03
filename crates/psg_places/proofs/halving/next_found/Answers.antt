use Rattle.std.proofs.Common.{arith}
use Rattle.psg_grammar.specs.Work.{work_of}
use Rattle.psg_places.specs.Answers.{IsBlameFault}
use Rattle.psg_cache.specs.Annotated.{tree_in}
use Rattle.psg_places.proofs.AnswerLaws.{passed}
use Rattle.psg_places.proofs.ClimbLaws.{round_all, round_fewer}
use Rattle.psg_places.proofs.SearchLaws.{left_more, one_and_more, one_at_most}
use Rattle.psg_places.proofs.halving.next_found.Goals as goal

pub next_trial-requires-clause-small : goal.next_trial-requires-clause-small
next_trial-requires-clause-small g c = omega (arith, c.requires.count)

pub next_trial-requires-clause-more : goal.next_trial-requires-clause-more
next_trial-requires-clause-more g c =
    left_more c.args.definition.now c.args.front.now c.args.tree.now c.args.kept.now _ c.requires.more (omega (arith, c.requires.count, c.requires.more.inside))

pub returns-in_err-trial-clause-fault : goal.returns-in_err-trial-clause-fault
returns-in_err-trial-clause-fault g c =
    passed (IsBlameFault c.args.definition.now c.args.tree.now) _ c.in_err-trial.field-0.0 c.from_residual.ensures.1
    c.in_err-trial.ensures.fault

pub returns-in_err-more-clause-fault : goal.returns-in_err-more-clause-fault
returns-in_err-more-clause-fault g c =
    passed (IsBlameFault c.args.definition.now c.args.tree.now) _ c.in_err-more.field-0.0 c.from_residual-in_err-more.ensures.1
    c.in_err-more.ensures.fault

pub returns-in_err-trial-clause-ticks : goal.returns-in_err-trial-clause-ticks
returns-in_err-trial-clause-ticks g c h le =
    one_at_most h (work_of c.args.tree.now) c.args.steps.now c.next_trial.new.steps c.next_trial.ensures.ticks

pub returns-in_err-more-clause-ticks : goal.returns-in_err-more-clause-ticks
returns-in_err-more-clause-ticks g c h le =
    one_and_more h (work_of c.args.tree.now) c.args.steps.now c.next_trial.new.steps c.most_kept.new.steps c.next_trial.ensures.ticks
    (c.most_kept.ensures.ticks h (omega (arith, le)))

pub returns-then-trial-clause-round : goal.returns-then-trial-clause-round
returns-then-trial-clause-round g c h le =
    round_all c.args.definition.now c.args.front.now c.args.tree.now c.args.kept.now _ h (tree_in c.args.old.now)
    (tree_in c.in_ok-trial.trial.note) c.args.steps.now c.next_trial.new.steps
    (omega (arith, c.requires.count, c.requires.more.inside)) c.in_ok-trial.ensures.tree c.next_trial.ensures.climb

pub returns-clause-round : goal.returns-clause-round
returns-clause-round g c h le =
    round_fewer c.args.definition.now c.args.front.now c.args.tree.now c.args.kept.now _ h (tree_in c.args.old.now)
    (tree_in c.in_ok-trial.trial.note) c.args.steps.now c.next_trial.new.steps c.most_kept.new.steps
    (omega (arith, c.requires.count, c.requires.more.inside)) c.in_ok-trial.ensures.tree c.next_trial.ensures.climb
    (c.in_ok-more.ensures.climbs h (omega (arith, le)))

pub returns-then-trial-clause-ticks : goal.returns-then-trial-clause-ticks
returns-then-trial-clause-ticks g c h le =
    one_at_most h (work_of c.args.tree.now) c.args.steps.now c.next_trial.new.steps c.next_trial.ensures.ticks

pub returns-clause-ticks : goal.returns-clause-ticks
returns-clause-ticks g c h le =
    one_and_more h (work_of c.args.tree.now) c.args.steps.now c.next_trial.new.steps c.most_kept.new.steps c.next_trial.ensures.ticks
    (c.most_kept.ensures.ticks h (omega (arith, le)))
