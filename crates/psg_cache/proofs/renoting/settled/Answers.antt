use Rattle.std.proofs.Common.{◌∙◌, sym, arith}
use Rattle.psg_cache.proofs.RenoteLaws.{wholes_before}
use Rattle.psg_cache.proofs.renoting.settled.Goals as goal

pub loop-left-init : goal.loop-left-init
loop-left-init c = record { nearer = omega arith; within = c.requires.within; same = c.requires.behind }

pub loop-left-preserved : goal.loop-left-preserved
loop-left-preserved c = record {
  nearer = (let w = c.loop-left.invariant.nearer in omega (arith, w));
  within = (let w = c.loop-left.invariant.within in omega (arith, w));
  same =
      wholes_before c.loop-left.left c.args.news.now c.args.olds.now c.index-news-left.result c.index-olds-left.result
      c.loop-left-test.true c.loop-left.invariant.within c.requires.long c.index-news-left.is c.index-olds-left.is
      (sym c.root.ensures ∙ c.same.ensures.0 c.if-not-same.false ∙ c.root-in-loop-left.ensures) c.loop-left.invariant.same;
}
