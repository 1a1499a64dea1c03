use Rattle.std.proofs.Common.{ap, length, arith}
use Rattle.psg_eval.specs.Starts.{IsListStart}
use Rattle.psg_eval.proofs.StartLaws.{at_more, at_none}
use Rattle.psg_eval.proofs.starts.list_starts.Goals as goal

pub loop-list-init : goal.loop-list-init
loop-list-init c = (ap length c.in_ok-made.ensures.items, at_none (IsListStart c.args.definition.now) _ c.in_ok-made.ensures.items)

pub loop-list-preserved : goal.loop-list-preserved
loop-list-preserved c =
    let (many, all) = c.loop-list.invariant in (
      omega (arith, many, c.in_ok-push.ensures.len),
      at_more (IsListStart c.args.definition.now) c.loop-list.made.items c.push.new.self.items c.in_ok-start.start c.loop-list.list all many c.in_ok-start.ensures c.in_ok-push.ensures.items,
    )
