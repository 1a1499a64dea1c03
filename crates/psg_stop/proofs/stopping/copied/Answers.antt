use Rattle.std.proofs.Common.{rules, ◌≡◌, length}
use Rattle.psg_stop.proofs.Rows.{tokens_next, tokens_whole}
use Rattle.psg_stop.proofs.stopping.copied.Goals as goal

pub loop-spanned-preserved : goal.loop-spanned-preserved
loop-spanned-preserved c =
    tokens_next c.args.tokens.now c.loop-spanned.row.items c.push.new.self.items c.loop-spanned.spanned-index c.spanned-item.result _
    c.loop-spanned-test.true c.spanned-item.is c.loop-spanned.invariant c.in_ok-push.ensures.items c.in_ok-token.ensures

pub returns : goal.returns
returns c =
    let end : c.loop-spanned.spanned-index ≡ length c.args.tokens.now = search rules in
    tokens_whole c.args.tokens.now c.loop-spanned.row.items c.loop-spanned.spanned-index end c.loop-spanned.invariant
