use Rattle.std.proofs.Common.{rules, ◌≡◌, ◌<◌, ◌∙◌, length}
use Rattle.psg_eval.proofs.FrameLaws.{put_more, put_whole}
use Rattle.psg_eval.proofs.climbing.with_summary.Goals as goal

pub loop-i-preserved : goal.loop-i-preserved
loop-i-preserved c =
    let within : c.loop-i.i < length c.args.children.now = search rules in
    put_more c.args.hot c.loop-i.i c.args.own.now c.index-children-i.result c.in_ok-copy.copy c.args.children.now c.loop-i.all.items c.push.new.self.items within
    c.index-children-i.is (λ e. c.in_ok-copy.ensures ∙ c.chosen-next.ensures.here e) (λ e. c.in_ok-copy.ensures ∙ c.chosen-next.ensures.other e)
    c.loop-i.invariant c.in_ok-push.ensures.items

pub returns : goal.returns
returns c =
    let end : c.loop-i.i ≡ length c.args.children.now = search rules in
    put_whole c.args.hot c.args.own.now c.args.children.now c.loop-i.all.items c.loop-i.i end c.loop-i.invariant
