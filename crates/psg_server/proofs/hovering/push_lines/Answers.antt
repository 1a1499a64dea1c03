use Rattle.psg_server.proofs.HoverLaws.{all_pushed, one_more}
use Rattle.psg_server.proofs.hovering.push_lines.Goals as goal

pub loop-line-preserved : goal.loop-line-preserved
loop-line-preserved c =
    one_more c.args.lines.now c.loop-line.line-index c.line-item.result c.as_str-own.result.now _ _ _
    c.loop-line-test.true c.line-item.is c.as_str-own.ensures.value c.in_ok-push_line.ensures c.loop-line.invariant

pub returns : goal.returns
returns c = all_pushed c.args.lines.now c.loop-line.line-index _ _ c.loop-line-test.false c.loop-line.invariant
