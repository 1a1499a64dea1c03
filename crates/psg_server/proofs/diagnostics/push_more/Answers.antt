use Rattle.std.proofs.Common.{refl}
use Rattle.psg_server.proofs.DiagnosticLaws.{told_more, told_none}
use Rattle.psg_server.proofs.diagnostics.push_more.Goals as goal

pub returns-in_ok-push : goal.returns-in_ok-push
returns-in_ok-push c =
    told_more c.args.page.now.encoding c.args.page.now.text.now c.args.more c.args.values.now.items c.push.new.self.items
    c.in_ok-range.range c.in_ok-value.value c.if-more.true c.in_ok-range.ensures c.in_ok-value.ensures
    c.in_ok-push.ensures.items

pub returns-else-more : goal.returns-else-more
returns-else-more c =
    told_none c.args.page.now.encoding c.args.page.now.text.now c.args.more c.args.values.now.items c.args.values.now.items
    c.if-more.false refl
