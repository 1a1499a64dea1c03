use Rattle.std.proofs.Common.{ap}
use Rattle.psg_explain.specs.declared.stages.Source.TheVariants as sources
use Rattle.psg_explain.proofs.StepLaws.{stage_ordered, stage_there, stage_within}
use Rattle.psg_explain.proofs.adding.closed_content.Goals as goal

pub bounds-stages-before : goal.bounds-stages-before
bounds-stages-before c = stage_within c.args.stages.now c.args.before c.requires

pub close_region-requires : goal.close_region-requires
close_region-requires c = stage_ordered c.args.stages.now c.args.before c.index-stages-before.result c.requires c.index-stages-before.is

pub returns : goal.returns
returns c = record {
  inside = c.index-stages-before.result;
  last = stage_there c.args.stages.now c.args.before c.index-stages-before.result c.requires c.index-stages-before.is;
  region = c.in_ok-closed.ensures.region;
  ordered = c.in_ok-closed.ensures.ordered;
  source = ap (sources.Closed c.args.before) c.in_ok-inside.ensures;
}
