use Rattle.std.proofs.Common.{ap₂}
use Rattle.psg_explain.specs.declared.stages.Source.TheVariants as sources
use Rattle.psg_explain.proofs.StepLaws.{stage_ordered, stage_there, stage_within}
use Rattle.psg_explain.proofs.adding.pair_content.Goals as goal

pub bounds-stages-before : goal.bounds-stages-before
bounds-stages-before c = stage_within c.args.stages.now c.args.before c.requires.before

pub bounds-stages-child : goal.bounds-stages-child
bounds-stages-child c = stage_within c.args.stages.now c.args.child c.requires.child

pub join-requires-clause-left : goal.join-requires-clause-left
join-requires-clause-left c = stage_ordered c.args.stages.now c.args.before c.index-stages-before.result c.requires.before c.index-stages-before.is

pub join-requires-clause-right : goal.join-requires-clause-right
join-requires-clause-right c = stage_ordered c.args.stages.now c.args.child c.index-stages-child.result c.requires.child c.index-stages-child.is

pub returns : goal.returns
returns c = record {
  left = c.index-stages-before.result;
  right = c.index-stages-child.result;
  last = stage_there c.args.stages.now c.args.before c.index-stages-before.result c.requires.before c.index-stages-before.is;
  there = stage_there c.args.stages.now c.args.child c.index-stages-child.result c.requires.child c.index-stages-child.is;
  region = c.in_ok-joined.ensures.region;
  ordered = c.in_ok-joined.ensures.ordered;
  source = ap₂ (sources.Pair c.args.before c.args.child) c.in_ok-mine.ensures c.in_ok-others.ensures;
}
