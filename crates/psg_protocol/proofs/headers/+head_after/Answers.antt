use Rattle.std.proofs.Common.{arith, sym, ◌∙◌}
use Rattle.psg_protocol.proofs.LineLaws.{after_end, after_line, after_none, head_zero}
use Rattle.psg_protocol.proofs.headers.+head_after.Goals as goal

pub returns-then-lines-eq0 : goal.returns-then-lines-eq0
returns-then-lines-eq0 t c = head_zero c.args.lines c.args.found c.args.size c.args.bytes.now c.if-lines-eq0.true

pub returns-in-None : goal.returns-in-None
returns-in-None t c =
    after_none c.args.lines c.args.found c.args.size c.args.bytes.now c.feed_of.result c.short_head.result (omega arith)
    c.feed_of.ensures.place c.in-None.is c.short_head.ensures

pub returns-then-is_empty : goal.returns-then-is_empty
returns-then-is_empty t c =
    after_end c.args.lines c.args.found c.args.size c.args.bytes.now c.feed_of.result c.in-Some.feed c.split_at.result.0.now
    c.without_return-line.result.now c.ended.result (omega arith) c.feed_of.ensures.place c.in-Some.is c.split_at.ensures.front
    c.without_return-line.ensures (sym c.is_empty.ensures ∙ c.if-is_empty.true) c.ended.ensures

pub returns-else-is_empty : goal.returns-else-is_empty
returns-else-is_empty t c =
    after_line c.args.lines c.args.found c.args.size c.args.bytes.now c.feed_of.result c.in-Some.feed c.split_at.result.0.now
    c.without_return-line.result.now c.split_at-else-is_empty.result.1.now c.length_after.result c.head_after.result (omega arith)
    c.feed_of.ensures.place c.in-Some.is c.split_at.ensures.front c.without_return-line.ensures
    (sym c.is_empty.ensures ∙ c.if-is_empty.false) c.length_after.ensures c.split_at-else-is_empty.ensures.back c.head_after.ensures
