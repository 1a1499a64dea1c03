use Rattle.psg_grammar.specs.Sizes.{depth_of}
use Rattle.psg_parse.proofs.Kept.{depth_child, nested, kept_child}
use Rattle.psg_parse.proofs.standing.Built.with_child.Goals as goal

pub returns : goal.returns
returns c f t d e x y = record {
  depth = depth_child c.args.self.depth c.args.child.depth c.deeper.result c.max-depth.result (depth_of f) (depth_of t) x.depth y.depth c.deeper.ensures c.max-depth.ensures;
  brackets = nested c.args.self.nesting c.args.child.nesting c.max-nesting.result d e x.brackets y.brackets c.max-nesting.ensures;
  kept = kept_child c.args.self.op f t d e c.args.self.parts c.in-Some-Some.parts c.push.new.self c.args.child.tree c.in-Some-Some.tree c.in-Some-Some.is-0 c.in-Some-Some.is-1 x.kept y.kept c.in_ok-push.ensures.ok;
}
