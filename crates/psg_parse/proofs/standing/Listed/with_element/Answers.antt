use Rattle.psg_grammar.specs.Sizes.{depth_of}
use Rattle.psg_parse.specs.Standing.{deepest}
use Rattle.psg_parse.proofs.Kept.{depth_element, nested, kept_element}
use Rattle.psg_parse.proofs.standing.Listed.with_element.Goals as goal

pub returns : goal.returns
returns c before e d n x y = record {
  depth = depth_element c.args.self.depth c.args.element.depth c.deeper.result c.max-depth.result (deepest before) (depth_of e) x.depth y.depth c.deeper.ensures c.max-depth.ensures;
  brackets = nested c.args.self.nesting c.args.element.nesting c.max-nesting.result d n x.brackets y.brackets c.max-nesting.ensures;
  kept = kept_element before e d n c.args.self.elements c.in-Some-Some.elements c.push.new.self c.args.element.tree c.in-Some-Some.tree c.in-Some-Some.is-0 c.in-Some-Some.is-1 x.kept y.kept c.in_ok-push.ensures.ok;
}
